-- The comment that is read is one, and each comment is read.
use Rattle.std.proofs.Common.{◌≡◌, ℕ, ◌+◌, ◌<◌, ◌≤◌, Bool, true, false, not, eqb, List, [], ◌∷◌, ◌++◌, Option, Some, None, length, take, drop, refl, sym, ap, ◌∙◌, subst, inl, inr, ◌⊎◌, append_assoc, length-append, arith}
use Rattle.std.specs.Option.{option_map}
use Rattle.std.specs.List.{prefix_len}
use Rattle.std.proofs.lemmas.Bool.{and_parts, and_from, cases_Bool, eqb-true, eq-eqb, not-false, true≢false, false_from_ne_true}
use Rattle.std.proofs.lemmas.List.{take-append-drop, take_at, drop_at, length-take-le, nil_from_length}
use Rattle.std.proofs.lemmas.List.Sums.{prefix_len-le-length}
use Rattle.lex_pieces.specs.Characters.{LF}
use Rattle.lex_pieces.specs.Escapes.{begins_with}
use Rattle.lex_pieces.specs.Comments.{line_len, closes, closed_len, comment_len}
use Rattle.lex_pieces.specs.Pieces.{IsLineComment, ClosesAtEnd, IsBlockComment, IsBlank}
use Rattle.lex_pieces.proofs.Runs.{Stops, run, run_passes, run_stops}
use Rattle.lex_pieces.proofs.PartLemmas.{begun}

abbrev pub not_lf : ℕ → Bool
not_lf c = not (eqb c LF)

stops_at_lf : (rest : List ℕ) → (rest ≡ []) ⊎ ((more : List ℕ) × (rest ≡ LF ∷ more)) → Stops not_lf rest
stops_at_lf rest (inl e) = subst (λ (r : List ℕ). Stops not_lf r) (sym e) tt
stops_at_lf rest (inr (more, e)) = subst (λ (r : List ℕ). Stops not_lf r) (sym e) refl

pub line_exact : (text rest : List ℕ) → IsLineComment text rest → comment_len (text ++ rest) ≡ Some (length text)
unfolding comment_len line_len
line_exact text rest (body, whole, all, ends) =
    subst (λ (t : List ℕ). comment_len (t ++ rest) ≡ Some (length t)) (sym whole)
    (ap (λ n. Some (n + 2)) (run not_lf body rest all (stops_at_lf rest ends)) ∙ ap Some (omega arith))

-- BLOCKS
-- the first `*/`: what stands before it, and behind it
pub record Closing (cs : List ℕ) (n : ℕ) : Type 0 where
  pub body : List ℕ
  pub rest : List ℕ
  pub split : cs ≡ body ++ (42 ∷ 47 ∷ rest)
  pub len : n ≡ length body + 2
  pub first : ClosesAtEnd (body ++ 42 ∷ 47 ∷ [])

closes_front : (c : ℕ) (cs : List ℕ) → closes (c ∷ cs) ≡ true → (c ≡ 42) × (cs ≡ 47 ∷ drop 1 cs)
closes_front c cs h =
    let tests = and_parts (eqb c 42) (begins_with 47 cs) h in
    (eqb-true c 42 tests.0, begun 47 cs tests.1)

alone : ClosesAtEnd (42 ∷ 47 ∷ [])
alone before after e = nil_from_length after (omega (arith, ap length e, length-append (before ++ 42 ∷ 47 ∷ []) after, length-append before (42 ∷ 47 ∷ [])))

mapped : (o : Option ℕ) (n : ℕ) → option_map (λ k. k + 1) o ≡ Some n → (m : ℕ) × (o ≡ Some m) × (n ≡ m + 1)
mapped None n h = absurd (cc)
mapped (Some m) n h = (m, refl, let same : m + 1 ≡ n = cc in sym same)

pub closed_sound : (cs : List ℕ) (n : ℕ) → closed_len cs ≡ Some n → Closing cs n
unfolding closed_len
closed_sound [] n h = absurd (cc)
closed_sound (c ∷ cs) n h =
    elim (cases_Bool (closes (c ∷ cs))) [
      | inl t ↦
          let front = closes_front c cs t in
          let same : Some 2 ≡ Some n = rw t at h in
          let size : 2 ≡ n = cc in
          record { body = []; rest = drop 1 cs; split = ap (λ (k : ℕ). k ∷ cs) front.0 ∙ ap (λ (l : List ℕ). 42 ∷ l) front.1; len = omega arith; first = alone }
      | inr f ↦
          let step = mapped (closed_len cs) n (rw f at h) in
          let found = closed_sound cs step.0 step.1 in
          record {
            body = c ∷ found.body;
            rest = found.rest;
            split = ap (λ (l : List ℕ). c ∷ l) found.split;
            len = omega (arith, found.len, step.2);
            first = later found.body found.rest found.split found.first f;
          }
    ]
  where
    later : (body rest : List ℕ) → cs ≡ body ++ (42 ∷ 47 ∷ rest) → ClosesAtEnd (body ++ 42 ∷ 47 ∷ []) → closes (c ∷ cs) ≡ false → ClosesAtEnd (c ∷ body ++ 42 ∷ 47 ∷ [])
    later body rest split first f [] after e =
        absurd (true≢false (sym (and_from (eqb c 42) (begins_with 47 cs) (eq-eqb c 42 (cc)) (slash body split (cc))) ∙ f))
      where
        slash : (b : List ℕ) → cs ≡ b ++ (42 ∷ 47 ∷ rest) → b ++ 42 ∷ 47 ∷ [] ≡ 47 ∷ after → begins_with 47 cs ≡ true
        slash [] is same = absurd (let bad : ◌≡◌ {A = ℕ} 42 47 = cc in omega arith)
        slash (x ∷ b) is same = ap (begins_with 47) is ∙ eq-eqb x 47 (cc)
    later body rest split first f (x ∷ before) after e = first before after (cc)

pub closed_exact : (body rest : List ℕ) → ClosesAtEnd (body ++ 42 ∷ 47 ∷ []) → closed_len (body ++ (42 ∷ 47 ∷ rest)) ≡ Some (length body + 2)
unfolding closed_len
closed_exact [] rest first = refl
closed_exact (c ∷ body) rest first =
    rw (not_yet, closed_exact body rest (λ before after e. first (c ∷ before) after (ap (λ (l : List ℕ). c ∷ l) e))) (ap Some (omega arith))
  where
    early : (b : List ℕ) → b ≡ body → b ++ (42 ∷ 47 ∷ rest) ≡ 47 ∷ drop 1 (b ++ (42 ∷ 47 ∷ rest)) → c ≡ 42 → ⊥
    early [] is slash star = let bad : ◌≡◌ {A = ℕ} 42 47 = cc in omega arith
    early (x ∷ b) is slash star =
        let none = first [] (b ++ 42 ∷ 47 ∷ []) (ap (λ l. c ∷ l ++ 42 ∷ 47 ∷ []) (sym is) ∙ (ap (λ (k : ℕ). k ∷ x ∷ (b ++ 42 ∷ 47 ∷ [])) star ∙ ap (λ (k : ℕ). 42 ∷ k ∷ (b ++ 42 ∷ 47 ∷ [])) (cc))) in
        omega (arith, ap length none, length-append b (42 ∷ 47 ∷ []))

    not_yet : closes (c ∷ (body ++ (42 ∷ 47 ∷ rest))) ≡ false
    not_yet = false_from_ne_true _ (λ t. let front = closes_front c (body ++ (42 ∷ 47 ∷ rest)) t in early body refl front.1 front.0)

pub block_exact : (text rest : List ℕ) → IsBlockComment text → comment_len (text ++ rest) ≡ Some (length text)
unfolding comment_len
block_exact text rest (body, whole, first) =
    subst (λ (t : List ℕ). comment_len (t ++ rest) ≡ Some (length t)) (sym whole)
    (ap (option_map (λ n. n + 2)) (ap closed_len (append_assoc body (42 ∷ 47 ∷ []) rest) ∙ closed_exact body rest first)
    ∙ ap Some (omega (arith, length-append body (42 ∷ 47 ∷ []))))

-- a comment at the front, of this length
pub record SoundComment (cs : List ℕ) (n : ℕ) : Type 0 where
  pub some : 0 < n
  pub fits : n ≤ length cs
  pub is_blank : IsBlank (take n cs) (drop n cs)

-- the text is a comment, and then the rest
front_comment : (cs text rest : List ℕ) (n : ℕ) → cs ≡ text ++ rest → n ≡ length text → 0 < n → IsBlank text rest → SoundComment cs n
front_comment cs text rest n split len some is =
    record {
      some = some;
      fits = omega (arith, ap length split, length-append text rest, len);
      is_blank = subst (λ (t : List ℕ). IsBlank t (drop n cs)) (sym (ap (take n) split ∙ take_at text rest n (sym len)))
          (subst (λ (r : List ℕ). IsBlank text r) (sym (ap (drop n) split ∙ drop_at text rest n (sym len))) is);
    }

line_ends : (rest : List ℕ) → Stops not_lf rest → (rest ≡ []) ⊎ ((more : List ℕ) × (rest ≡ LF ∷ more))
line_ends [] stops = inl refl
line_ends (c ∷ cs) stops = inr (cs, ap (λ (k : ℕ). k ∷ cs) (eqb-true c LF (not-false (eqb c LF) stops)))

line_sound : (line : List ℕ) → SoundComment (47 ∷ 47 ∷ line) (line_len line + 2)
unfolding line_len
line_sound line =
    let n : ℕ = prefix_len not_lf line in
    let size : length (take n line) ≡ n = length-take-le n line (prefix_len-le-length not_lf line) in
    front_comment (47 ∷ 47 ∷ line) (47 ∷ 47 ∷ take n line) (drop n line) (n + 2)
    (ap (λ (l : List ℕ). 47 ∷ 47 ∷ l) (sym (take-append-drop n line))) (omega (arith, size)) (omega arith)
    (inr (inl (take n line, refl, run_passes not_lf line, line_ends (drop n line) (run_stops not_lf line))))

block_sound : (block : List ℕ) (n : ℕ) → closed_len block ≡ Some n → SoundComment (47 ∷ 42 ∷ block) (n + 2)
block_sound block n h =
    let found = closed_sound block n h in
    front_comment (47 ∷ 42 ∷ block) (47 ∷ 42 ∷ found.body ++ 42 ∷ 47 ∷ []) found.rest (n + 2)
    (ap (λ (l : List ℕ). 47 ∷ 42 ∷ l) (found.split ∙ sym (append_assoc found.body (42 ∷ 47 ∷ []) found.rest)))
    (omega (arith, found.len, length-append found.body (42 ∷ 47 ∷ []))) (omega arith)
    (inr (inr (found.body, refl, found.first)))

plus_two : (o : Option ℕ) (n : ℕ) → option_map (λ k. k + 2) o ≡ Some n → (m : ℕ) × (o ≡ Some m) × (n ≡ m + 2)
plus_two None n h = absurd (cc)
plus_two (Some m) n h = (m, refl, let same : m + 2 ≡ n = cc in sym same)

pub comment_sound : (cs : List ℕ) (n : ℕ) → comment_len (47 ∷ cs) ≡ Some n → SoundComment (47 ∷ cs) n
unfolding comment_len
comment_sound cs n h =
    elim (cases_Bool (begins_with 47 cs)) [
      | inl line ↦
          let same : Some (line_len (drop 1 cs) + 2) ≡ Some n = rw line at h in
          let size : line_len (drop 1 cs) + 2 ≡ n = cc in
          subst (λ (k : ℕ). SoundComment (47 ∷ cs) k) size (subst (λ (l : List ℕ). SoundComment (47 ∷ l) (line_len (drop 1 cs) + 2)) (sym (begun 47 cs line)) (line_sound (drop 1 cs)))
      | inr line ↦ elim (cases_Bool (begins_with 42 cs)) [
        | inl block ↦
            let step = plus_two (closed_len (drop 1 cs)) n (rw (line, block) at h) in
            subst (λ (k : ℕ). SoundComment (47 ∷ cs) k) (sym step.2) (subst (λ (l : List ℕ). SoundComment (47 ∷ l) (step.0 + 2)) (sym (begun 42 cs block)) (block_sound (drop 1 cs) step.0 step.1))
        | inr block ↦ absurd (let none : None ≡ Some n = rw (line, block) at h in cc)
      ]
    ]
