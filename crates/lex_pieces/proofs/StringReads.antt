-- What is read behind a quote is a string's parts, and no other string begins there.
use Rattle.std.proofs.Common.{◌≡◌, ℕ, ◌+◌, ◌≤◌, true, false, eqb, List, [], ◌∷◌, ◌++◌, map, Some, None, length, take, drop, refl, sym, ap, ◌∙◌, subst, inl, inr, append_assoc, length-append, length-drop, arith}
use Rattle.std.specs.Char.{encode_utf8}
use Rattle.std.specs.Str.{encode_utf8_all}
use Rattle.std.proofs.lemmas.Bool.{true≢false, eq-eqb, eqb-true, or_cases}
use Rattle.std.proofs.lemmas.List.{take_at, drop_at, drop-drop, append-nil, append_cancel_left, map-append}
use Rattle.lex_pieces.specs.Characters.{is_quote}
use Rattle.lex_pieces.specs.Strings.{Part, written, IsPart, AreParts, IsString, ReadsParts, IsStringRead}
use Rattle.lex_pieces.specs.Escapes.{begins_with, part_at}
use Rattle.lex_pieces.proofs.Encoding.{encoded_push}
use Rattle.lex_pieces.proofs.PartLemmas.{part_exact, part_sound, begun}

written_more : (ps : List Part) (p : Part) (rest : List ℕ) → written (ps ++ p ∷ []) ++ rest ≡ written ps ++ (p.written ++ rest)
written_more [] p rest = ap (λ l. l ++ rest) (append-nil p.written)
written_more (q ∷ ps) p rest =
    append_assoc q.written (written (ps ++ p ∷ [])) rest ∙ (ap (λ l. q.written ++ l) (written_more ps p rest) ∙ sym (append_assoc q.written (written ps) (p.written ++ rest)))

parts_more : (quote : ℕ) (ps : List Part) (p : Part) (rest : List ℕ) → AreParts quote ps (p.written ++ rest) → IsPart quote p rest → AreParts quote (ps ++ p ∷ []) rest
parts_more quote [] p rest all one = (one, tt)
parts_more quote (q ∷ ps) p rest all one =
    (subst (λ l. IsPart quote q l) (sym (written_more ps p rest)) all.0, parts_more quote ps p rest all.1 one)

-- one more part is read
pub reads_more : (quote : ℕ) (text : List ℕ) (at c n : ℕ) (value : List ℕ) → ReadsParts quote text at value → part_at quote (drop at text) ≡ Some (c, n) →
    ReadsParts quote text (at + n) (value ++ encode_utf8 c)
reads_more quote text at c n value before h =
    let found = part_sound quote (drop at text) c n h in
    let p : Part = record { written = found.w; value = c } in
    let rest : drop (at + n) text ≡ found.rest =
    sym (drop-drop n at text) ∙ (ap (drop n) found.split ∙ drop_at found.w found.rest n (sym found.len)) in (
      before.0 ++ p ∷ [],
      before.1 ∙ ap (λ l. quote ∷ l) (ap (λ l. written before.0 ++ l) found.split ∙ (sym (written_more before.0 p found.rest) ∙ ap (λ l. written (before.0 ++ p ∷ []) ++ l) (sym rest))),
      subst (λ l. AreParts quote (before.0 ++ p ∷ []) l) (sym rest)
          (parts_more quote before.0 p found.rest (subst (λ l. AreParts quote before.0 l) found.split before.2) found.is_part),
      ap (λ v. v ++ encode_utf8 c) before.3
          ∙ (sym (encoded_push (map (λ part. part.value) before.0) c) ∙ ap encode_utf8_all (sym (map-append (λ (part : Part). part.value) before.0 (p ∷ [])))),
    )

pub reads_none : (quote : ℕ) (text : List ℕ) → begins_with quote text ≡ true → ReadsParts quote text 1 []
reads_none quote [] h = absurd (true≢false (sym h))
reads_none quote (c ∷ cs) h = ([], ap (λ (k : ℕ). k ∷ cs) (eqb-true c quote h), tt, refl)

-- two lists of parts of one text, the first of which ends where no part begins
pub agree : (quote : ℕ) (ps qs : List Part) (end rest : List ℕ) → AreParts quote ps end → AreParts quote qs rest →
    written ps ++ end ≡ written qs ++ rest → part_at quote rest ≡ None → part_at quote end ≡ None → (ps ≡ qs) × (end ≡ rest)
agree quote [] [] end rest a b e stop stuck = (refl, e)
agree quote [] (q ∷ qs) end rest a b e stop stuck =
    let found = part_exact quote q (written qs ++ rest) b.0 in
    let here = subst (λ l. part_at quote l ≡ None) (e ∙ append_assoc q.written (written qs) rest) stuck in
    absurd (clash (sym here ∙ found))
  where
    clash : {x : ℕ × ℕ} → None ≡ Some x → ⊥
    clash h = cc
agree quote (p ∷ ps) [] end rest a b e stop stuck =
    let found = part_exact quote p (written ps ++ end) a.0 in
    let here = subst (λ l. part_at quote l ≡ None) (sym e ∙ append_assoc p.written (written ps) end) stop in
    absurd (clash (sym here ∙ found))
  where
    clash : {x : ℕ × ℕ} → None ≡ Some x → ⊥
    clash h = cc
agree quote (p ∷ ps) (q ∷ qs) end rest a b e stop stuck =
    let left = part_exact quote p (written ps ++ end) a.0 in
    let right = part_exact quote q (written qs ++ rest) b.0 in
    let whole : p.written ++ (written ps ++ end) ≡ q.written ++ (written qs ++ rest) =
    sym (append_assoc p.written (written ps) end) ∙ (e ∙ append_assoc q.written (written qs) rest) in
    let both : Some (p.value, length p.written) ≡ Some (q.value, length q.written) = sym left ∙ (ap (part_at quote) whole ∙ right) in
    let pair : ◌≡◌ {A = ℕ × ℕ} (p.value, length p.written) (q.value, length q.written) = cc in
    let value : p.value ≡ q.value = ap (λ (z : ℕ × ℕ). z.0) pair in
    let size : length p.written ≡ length q.written = ap (λ (z : ℕ × ℕ). z.1) pair in
    let text : p.written ≡ q.written =
    sym (take_at p.written (written ps ++ end) (length p.written) refl)
    ∙ (ap (take (length p.written)) whole ∙ take_at q.written (written qs ++ rest) (length p.written) (sym size)) in
    let tails : written ps ++ end ≡ written qs ++ rest =
    append_cancel_left p.written (written ps ++ end) (written qs ++ rest) (whole ∙ ap (λ l. l ++ (written qs ++ rest)) (sym text)) in
    let more = agree quote ps qs end rest a.1 b.1 tails stop stuck in
    let part : p ≡ q =
    ap (λ (w : List ℕ). let r : Part = record { written = w; value = p.value } in r) text
    ∙ ap (λ (v : ℕ). let r : Part = record { written = q.written; value = v } in r) value in
    (ap (λ (x : Part). x ∷ ps) part ∙ ap (λ (l : List Part). q ∷ l) more.0, more.1)

quote_stops : (quote : ℕ) (rest : List ℕ) → is_quote quote ≡ true → part_at quote (quote ∷ rest) ≡ None
unfolding part_at
quote_stops quote rest h =
    elim (or_cases (eqb quote 39) (eqb quote 34) h) [
      | inl e ↦ subst (λ (q : ℕ). part_at q (q ∷ rest) ≡ None) (sym (eqb-true quote 39 e)) refl
      | inr e ↦ subst (λ (q : ℕ). part_at q (q ∷ rest) ≡ None) (sym (eqb-true quote 34 e)) refl
    ]

-- the text behind a string's first quote, cut at the end of its parts
behind : (quote : ℕ) (ws rest : List ℕ) → (quote ∷ ws ++ quote ∷ []) ++ rest ≡ quote ∷ (ws ++ (quote ∷ rest))
behind quote ws rest = ap (λ (l : List ℕ). quote ∷ l) (append_assoc ws (quote ∷ []) rest)

-- two strings that begin one text are the same
pub string_same : (t v r t' v' r' : List ℕ) → IsString t v r → IsString t' v' r' → t ++ r ≡ t' ++ r' → (t ≡ t') × (v ≡ v')
string_same t v r t' v' r' (quote, parts, is, all, text, value) (quote', parts', is', all', text', value') e =
    let left = ap (λ l. l ++ r) text ∙ behind quote (written parts) r in
    let right = ap (λ l. l ++ r') text' ∙ behind quote' (written parts') r' in
    let whole : quote ∷ (written parts ++ (quote ∷ r)) ≡ quote' ∷ (written parts' ++ (quote' ∷ r')) = sym left ∙ (e ∙ right) in
    let same : quote' ≡ quote = cc in
    let all2 : AreParts quote parts' (quote ∷ r') = subst (λ (q : ℕ). AreParts q parts' (q ∷ r')) same all' in
    let tails : written parts ++ (quote ∷ r) ≡ written parts' ++ (quote' ∷ r') = cc in
    let found = agree quote parts parts' (quote ∷ r) (quote ∷ r') all all2 (tails ∙ ap (λ (q : ℕ). written parts' ++ (q ∷ r')) same)
    (quote_stops quote r' is) (quote_stops quote r is) in (
      text ∙ (ap (λ ps. quote ∷ written ps ++ quote ∷ []) found.0 ∙ (ap (λ (q : ℕ). q ∷ written parts' ++ q ∷ []) (sym same) ∙ sym text')),
      value ∙ (ap (λ ps. map (λ (part : Part). part.value) ps) found.0 ∙ sym value'),
    )

-- where the parts end at the quote, a string is read
pub string_read : (quote : ℕ) (text : List ℕ) (at : ℕ) (value : List ℕ) → is_quote quote ≡ true → ReadsParts quote text at value → at ≤ length text →
    begins_with quote (drop at text) ≡ true → IsStringRead text (Some (value, at + 1))
string_read quote text at value is read within ends =
    let front : List ℕ = quote ∷ written read.0 in
    let more : List ℕ = drop (at + 1) text in
    let split : text ≡ front ++ drop at text = read.1 in
    let rest : drop at text ≡ quote ∷ more = begun quote (drop at text) ends ∙ ap (λ (l : List ℕ). quote ∷ l) (drop-drop 1 at text) in
    let size : at ≡ length front = omega (arith, ap length split, length-append front (drop at text), length-drop at text) in
    let whole : text ≡ (quote ∷ written read.0 ++ quote ∷ []) ++ more =
    split ∙ (ap (λ l. front ++ l) rest ∙ sym (behind quote (written read.0) more)) in
    let count : length (quote ∷ written read.0 ++ quote ∷ []) ≡ at + 1 = omega (arith, length-append (written read.0) (quote ∷ []), size) in
    let enough : at + 1 ≤ length text = omega (arith, ap length rest, length-drop at text, within) in (
      omega arith,
      enough,
      (
        map (λ (part : Part). part.value) read.0,
        (
          quote,
          read.0,
          is,
          subst (λ l. AreParts quote read.0 l) rest read.2,
          ap (take (at + 1)) whole ∙ take_at (quote ∷ written read.0 ++ quote ∷ []) more (at + 1) count,
          refl,
        ),
        read.3,
      ),
    )

-- where they end elsewhere, none begins
pub string_none : (quote : ℕ) (text : List ℕ) (at : ℕ) (value : List ℕ) → is_quote quote ≡ true → ReadsParts quote text at value → at ≤ length text →
    part_at quote (drop at text) ≡ None → begins_with quote (drop at text) ≡ false → IsStringRead text None
string_none quote text at value is read within stuck ends t v r e (quote', parts, is', all, whole, decoded) =
    let right = ap (λ l. l ++ r) whole ∙ behind quote' (written parts) r in
    let both : quote ∷ (written read.0 ++ drop at text) ≡ quote' ∷ (written parts ++ (quote' ∷ r)) = sym read.1 ∙ (e ∙ right) in
    let same : quote' ≡ quote = cc in
    let all2 : AreParts quote parts (quote ∷ r) = subst (λ (q : ℕ). AreParts q parts (q ∷ r)) same all in
    let tails : written read.0 ++ drop at text ≡ written parts ++ (quote' ∷ r) = cc in
    let found = agree quote read.0 parts (drop at text) (quote ∷ r) read.2 all2 (tails ∙ ap (λ (q : ℕ). written parts ++ (q ∷ r)) same)
    (quote_stops quote r is) stuck in
    true≢false (sym (eq-eqb quote quote refl) ∙ (sym (ap (begins_with quote) found.1) ∙ ends))
