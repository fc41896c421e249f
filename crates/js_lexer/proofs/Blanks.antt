-- A blank character of one byte is a piece.
use Rattle.std.proofs.Common.{◌≡◌, ℕ, ◌<◌, true, ◌||◌, eqb, List, [], ◌∷◌, ◌++◌, None, length, take, drop, refl, sym, ap, ◌∙◌, subst, inl, inr, length-drop, arith}
use Rattle.std.specs.Str.{encode_utf8_all}
use Rattle.std.proofs.lemmas.Bool.{or_cases, eqb-true, true≢false}
use Rattle.std.proofs.lemmas.Str.{cons_from_encodes, encode_ascii}
use Rattle.lex_pieces.specs.Characters.{is_blank_char}
use Rattle.lex_pieces.specs.Starts.{start_of}
use Rattle.lex_pieces.specs.declared.start.Start.TheVariants.{Blank}
use Rattle.lex_pieces.specs.Pieces.{IsLongest}
use Rattle.lex_pieces.proofs.Fronts.{blank_read}
use Rattle.lex_pieces.proofs.Starting.{blank_starts}
use Rattle.js_lexer.specs.Cut.{byte_len}
use Rattle.js_lexer.specs.Step.{begins_blank}

-- what the byte is: ASCII, and a blank
blank_byte : (c : ℕ) → (c < 128) × (is_blank_char c ≡ true) → (c < 128) × (start_of c ≡ Blank)
blank_byte c is = (is.0, blank_starts c is.1)

at_byte : (c k : ℕ) → eqb c k ≡ true → (k < 128) × (is_blank_char k ≡ true) → (c < 128) × (start_of c ≡ Blank)
at_byte c k h is = subst (λ (n : ℕ). (n < 128) × (start_of n ≡ Blank)) (sym (eqb-true c k h)) (blank_byte k is)

first_byte : (c : ℕ) → (eqb c 32 || (eqb c 10 || (eqb c 9 || eqb c 13))) ≡ true → (c < 128) × (start_of c ≡ Blank)
first_byte c h = elim (or_cases (eqb c 32) (eqb c 10 || (eqb c 9 || eqb c 13)) h) [
  | inl e ↦ at_byte c 32 e (omega arith, refl)
  | inr more ↦ elim (or_cases (eqb c 10) (eqb c 9 || eqb c 13) more) [
    | inl e ↦ at_byte c 10 e (omega arith, refl)
    | inr last ↦ elim (or_cases (eqb c 9) (eqb c 13) last) [
      | inl e ↦ at_byte c 9 e (omega arith, refl)
      | inr e ↦ at_byte c 13 e (omega arith, refl)
    ]
  ]
]

-- it is the longest piece, and none of its tokens
pub blank_longest : (text bytes : List ℕ) (from at : ℕ) → encode_utf8_all (drop from text) ≡ drop at bytes → begins_blank (drop at bytes) ≡ true →
    IsLongest None (take 1 (drop from text)) (drop 1 (drop from text)) × (1 ≡ byte_len (take 1 (drop from text))) × (from < length text)
blank_longest text bytes from at place h = behind (drop at bytes) place h
  where
    behind : (l : List ℕ) → encode_utf8_all (drop from text) ≡ l → begins_blank l ≡ true →
        IsLongest None (take 1 (drop from text)) (drop 1 (drop from text)) × (1 ≡ byte_len (take 1 (drop from text))) × (from < length text)
    behind [] e h = absurd (true≢false (sym h))
    behind (c ∷ cs) e h =
        let is = first_byte c h in
        let first = cons_from_encodes (drop from text) cs c (e ∙ ap (λ l. l ++ cs) (sym (encode_ascii c is.0))) in (
          subst (λ (l : List ℕ). IsLongest None (take 1 l) (drop 1 l)) (sym first.1) (blank_read (c ∷ first.0) is.1).2,
          sym (ap (λ (l : List ℕ). byte_len (take 1 l)) first.1 ∙ ap (λ l. length (l ++ [])) (encode_ascii c is.0)),
          omega (arith, ap length first.1, length-drop from text),
        )
