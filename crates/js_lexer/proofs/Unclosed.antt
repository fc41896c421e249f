-- Behind a comment that is not closed no comment is, and its first mark is a token.
use Rattle.std.proofs.Common.{◌≡◌, ℕ, suc, zero, ◌+◌, ◌<◌, Bool, true, ◌&&◌, ◌||◌, eqb, List, [], ◌∷◌, ◌++◌, Option, Some, None, length, take, drop, refl, sym, ap, ◌∙◌, subst, inl, inr, length-drop, arith}
use Rattle.std.specs.Option.{option_map}
use Rattle.std.specs.Str.{encode_utf8_all}
use Rattle.std.proofs.lemmas.Bool.{and_parts, cases_Bool, eqb-true, true≢false, or_cases}
use Rattle.std.proofs.lemmas.List.{length-take-le, take-append-drop, drop-drop}
use Rattle.std.proofs.lemmas.Str.{cons_from_encodes, encode_ascii}
use Rattle.js_token.specs.declared.token.TokenKind.{TokenKind}
use Rattle.lex_pieces.specs.Comments.{closes, closed_len, comment_len}
use Rattle.lex_pieces.specs.Escapes.{begins_with}
use Rattle.lex_pieces.specs.Marks.{longest_of_two, longest_of_three}
use Rattle.lex_pieces.specs.Pieces.{IsLongest}
use Rattle.lex_pieces.proofs.CommentLemmas.{comment_sound}
use Rattle.lex_pieces.proofs.Fronts.{slash_mark}
use Rattle.lex_pieces.proofs.PartLemmas.{begun}
use Rattle.lex_pieces.proofs.Starting.{starts_at_47}
use Rattle.js_lexer.specs.Cut.{byte_len}
use Rattle.js_lexer.specs.Step.{opens_block, IsUnclosed, slash}

unmapped : (o : Option ℕ) → option_map (λ n. n + 1) o ≡ None → o ≡ None
unmapped None h = refl
unmapped (Some n) h = absurd (cc)

closed_tail : (c : ℕ) (cs : List ℕ) → closed_len (c ∷ cs) ≡ None → closed_len cs ≡ None
unfolding closed_len
closed_tail c cs h =
    elim (cases_Bool (closes (c ∷ cs))) [
      | inl e ↦ absurd (let none : Some 2 ≡ None = rw e at h in cc)
      | inr e ↦ unmapped (closed_len cs) (rw e at h)
    ]

-- what is not closed is not closed further on
closed_later : (n : ℕ) (cs : List ℕ) → closed_len cs ≡ None → closed_len (drop n cs) ≡ None
closed_later zero cs h = h
closed_later (suc n) [] h = h
closed_later (suc n) (c ∷ cs) h = closed_later n cs (closed_tail c cs h)

closed_on : (from n : ℕ) (text : List ℕ) → closed_len (drop from text) ≡ None → closed_len (drop (from + n) text) ≡ None
closed_on from n text h = subst (λ (l : List ℕ). closed_len l ≡ None) (drop-drop n from text) (closed_later n (drop from text) h)

-- the text behind the two marks
opened : (cs bytes : List ℕ) → encode_utf8_all cs ≡ bytes → opens_block bytes ≡ true → (more : List ℕ) × (cs ≡ 47 ∷ 42 ∷ more)
opened cs [] e h = absurd (true≢false (sym h))
opened cs (b ∷ bytes) e h =
    let tests = and_parts (eqb b 47) (begins_with 42 bytes) h in
    let slashed : b ∷ bytes ≡ 47 ∷ 42 ∷ drop 1 bytes = ap (λ (k : ℕ). k ∷ bytes) (eqb-true b 47 tests.0) ∙ ap (λ (l : List ℕ). 47 ∷ l) (begun 42 bytes tests.1) in
    let first = cons_from_encodes cs (42 ∷ drop 1 bytes) 47 (e ∙ (slashed ∙ ap (λ l. l ++ (42 ∷ drop 1 bytes)) (sym (encode_ascii 47 (omega arith))))) in
    let second = cons_from_encodes first.0 (drop 1 bytes) 42 (first.2 ∙ ap (λ l. l ++ drop 1 bytes) (sym (encode_ascii 42 (omega arith)))) in
    (second.0, first.1 ∙ ap (λ (l : List ℕ). 47 ∷ l) second.1)

no_comment : (more : List ℕ) → closed_len more ≡ None → comment_len (47 ∷ 42 ∷ more) ≡ None
unfolding comment_len
no_comment more h = ap (option_map (λ n. n + 2)) h

block_comment : (text : List ℕ) (n : ℕ) → closed_len text ≡ Some n → comment_len (47 ∷ 42 ∷ text) ≡ Some (n + 2)
unfolding comment_len
block_comment text n is = ap (option_map (λ k. k + 2)) is

slash_first : (more : List ℕ) → closed_len more ≡ None → IsLongest slash (47 ∷ []) (42 ∷ more)
unfolding longest_of_two longest_of_three
slash_first [] h = (slash_mark (47 ∷ 42 ∷ []) starts_at_47 (no_comment [] h)).2
slash_first (c ∷ cs) h = (slash_mark (47 ∷ 42 ∷ c ∷ cs) starts_at_47 (no_comment (c ∷ cs) h)).2

-- the first mark is the longest piece
pub slash_longest : (text bytes : List ℕ) (from at : ℕ) (known : Bool) → encode_utf8_all (drop from text) ≡ drop at bytes → IsUnclosed known from text → known && opens_block (drop at bytes) ≡ true →
    IsLongest slash (take 1 (drop from text)) (drop 1 (drop from text)) × (1 ≡ byte_len (take 1 (drop from text))) × (from < length text)
slash_longest text bytes from at known place unclosed h =
    let tests = and_parts known (opens_block (drop at bytes)) h in
    let front = opened (drop from text) (drop at bytes) place tests.1 in
    let behind : closed_len (42 ∷ front.0) ≡ None = ap closed_len (sym (ap (drop 1) front.1)) ∙ (ap closed_len (drop-drop 1 from text) ∙ unclosed tests.0) in (
      subst (λ (l : List ℕ). IsLongest slash (take 1 l) (drop 1 l)) (sym front.1) (slash_first front.0 (closed_tail 42 front.0 behind)),
      sym (ap (λ (l : List ℕ). byte_len (take 1 l)) front.1 ∙ ap (λ l. length (l ++ [])) (encode_ascii 47 (omega arith))),
      omega (arith, ap length front.1, length-drop from text),
    )

-- and what was known is known behind any piece
pub unclosed_on : (text : List ℕ) (from len : ℕ) (known : Bool) → IsUnclosed known from text → IsUnclosed known (from + len) text
unclosed_on text from len known before h =
    subst (λ (k : ℕ). closed_len (drop k text) ≡ None) (omega arith) (closed_on (from + 1) len text (before h))

-- a piece of one character at the two marks tells that they begin no comment
lone : (more : List ℕ) (kind : Option TokenKind) → IsLongest kind (take 1 (47 ∷ 42 ∷ more)) (drop 1 (47 ∷ 42 ∷ more)) → closed_len more ≡ None
lone more kind longest = at (closed_len more) refl
  where
    at : (o : Option ℕ) → closed_len more ≡ o → o ≡ None
    at None e = refl
    at (Some n) e =
        let found = comment_sound (42 ∷ more) (n + 2) (block_comment more n e) in
        absurd (omega (arith, longest.longest None (take (n + 2) (47 ∷ 42 ∷ more)) (drop (n + 2) (47 ∷ 42 ∷ more)) (sym (take-append-drop (n + 2) (47 ∷ 42 ∷ more))) found.is_blank, length-take-le (n + 2) (47 ∷ 42 ∷ more) found.fits))

pub unclosed_found : (text bytes : List ℕ) (from at len : ℕ) (known : Bool) (kind : Option TokenKind) → encode_utf8_all (drop from text) ≡ drop at bytes → IsUnclosed known from text →
    IsLongest kind (take len (drop from text)) (drop len (drop from text)) → IsUnclosed (known || (eqb len 1 && opens_block (drop at bytes))) (from + len) text
unclosed_found text bytes from at len known kind place before longest h =
    elim (or_cases known (eqb len 1 && opens_block (drop at bytes)) h) [
      | inl old ↦ unclosed_on text from len known before old
      | inr new ↦
          let tests = and_parts (eqb len 1) (opens_block (drop at bytes)) new in
          let one : len ≡ 1 = eqb-true len 1 tests.0 in
          let front = opened (drop from text) (drop at bytes) place tests.1 in
          let none : closed_len front.0 ≡ None =
          lone front.0 kind (subst (λ (l : List ℕ). IsLongest kind (take 1 l) (drop 1 l)) front.1 (subst (λ (k : ℕ). IsLongest kind (take k (drop from text)) (drop k (drop from text))) one longest)) in
          let here : closed_len (drop 2 (drop from text)) ≡ None = ap (λ (l : List ℕ). closed_len (drop 2 l)) front.1 ∙ none in
          subst (λ (l : List ℕ). closed_len l ≡ None) (drop-drop 2 from text ∙ ap (λ (k : ℕ). drop k text) (let e : from + 2 ≡ from + len + 1 = omega (arith, one) in e)) here
    ]
