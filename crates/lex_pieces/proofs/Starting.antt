-- What begins each kind of piece.
use Rattle.std.proofs.Common.{◌≡◌, ℕ, ◌<◌, ◌≤◌, true, false, ◌||◌, eqb, leb, refl, sym, ◌∙◌, subst, inl, inr, arith}
use Rattle.std.specs.Char.{is_ascii_digit, is_ascii_alphabetic}
use Rattle.std.specs.Int.{is_in_range}
use Rattle.std.proofs.lemmas.Bool.{and_parts, and_left, and_right, or_cases, or_from, false_from_ne_true, eqb-true, ne_eqb, leb-true, lt-leb, true≢false}
use Rattle.unicode_ident.proofs.Computing.{unicode_ident}
use Rattle.unicode_ident.proofs.IdentLemmas.{is_xid_start-ascii}
use Rattle.lex_pieces.specs.declared.start.Start.TheVariants.{Blank, Word, Digit, Quote, Dot, Slash, Mark}
use Rattle.lex_pieces.specs.Characters.{is_blank_char}
use Rattle.source_characters.specs.Words.{starts_word}
use Rattle.lex_pieces.specs.Starts.{start_of}

-- an ASCII character that is no letter, `$` or `_` begins no word
no_word : (c : ℕ) → c < 128 → is_ascii_alphabetic c ≡ false → eqb c 36 ≡ false → eqb c 95 ≡ false → starts_word c ≡ false
no_word c small letter dollar line = rw (dollar, line, is_xid_start-ascii c small) letter

below : (low high c : ℕ) → c < low → is_in_range low high c ≡ false
below low high c h = and_left (leb low c) (leb c high) (lt-leb low c h)

above : (low high c : ℕ) → high < c → is_in_range low high c ≡ false
above low high c h = and_right (leb low c) (leb c high) (lt-leb c high h)

-- a character below the letters, other than `$`
low_no_word : (c : ℕ) → c < 65 → (c ≡ 36 → ⊥) → starts_word c ≡ false
low_no_word c small dollar =
    no_word c (omega arith) (or_from _ _ (below 65 90 c small) (below 97 122 c (omega arith))) (ne_eqb c 36 dollar) (ne_eqb c 95 (λ e. omega arith))

no_word_at_160 : starts_word 160 ≡ false
unfolding unicode_ident
no_word_at_160 = refl

no_word_at_8232 : starts_word 8232 ≡ false
unfolding unicode_ident
no_word_at_8232 = refl

no_word_at_8233 : starts_word 8233 ≡ false
unfolding unicode_ident
no_word_at_8233 = refl

no_word_at_65279 : starts_word 65279 ≡ false
unfolding unicode_ident
no_word_at_65279 = refl

along : (c n : ℕ) → eqb c n ≡ true → starts_word n ≡ false → starts_word c ≡ false
along c n e h = subst (λ (k : ℕ). starts_word k ≡ false) (sym (eqb-true c n e)) h

-- no blank begins a word
blank_no_word : (c : ℕ) → is_blank_char c ≡ true → starts_word c ≡ false
blank_no_word c h = elim (or_cases _ (eqb c 65279) h) [ inr e ↦ along c 65279 e no_word_at_65279 | inl h4 ↦ four h4 ]
  where
    one : is_in_range 9 13 c || eqb c 32 ≡ true → starts_word c ≡ false
    one h1 =
        elim (or_cases (is_in_range 9 13 c) (eqb c 32) h1) [
          | inr e ↦ let same = eqb-true c 32 e in low_no_word c (omega arith) (λ dollar. omega arith)
          | inl range ↦ let high = leb-true c 13 (and_parts (leb 9 c) (leb c 13) range).1 in low_no_word c (omega arith) (λ dollar. omega arith)
        ]

    two : is_in_range 9 13 c || eqb c 32 || eqb c 160 ≡ true → starts_word c ≡ false
    two h2 = elim (or_cases _ (eqb c 160) h2) [ inr e ↦ along c 160 e no_word_at_160 | inl h1 ↦ one h1 ]

    three : is_in_range 9 13 c || eqb c 32 || eqb c 160 || eqb c 8232 ≡ true → starts_word c ≡ false
    three h3 = elim (or_cases _ (eqb c 8232) h3) [ inr e ↦ along c 8232 e no_word_at_8232 | inl h2 ↦ two h2 ]

    four : is_in_range 9 13 c || eqb c 32 || eqb c 160 || eqb c 8232 || eqb c 8233 ≡ true → starts_word c ≡ false
    four h4 = elim (or_cases _ (eqb c 8233) h4) [ inr e ↦ along c 8233 e no_word_at_8233 | inl h3 ↦ three h3 ]

-- a digit is no blank
digit_no_blank : (c : ℕ) → 48 ≤ c → c ≤ 57 → is_blank_char c ≡ false
digit_no_blank c low high =
    or_from _ _ (or_from _ _ (or_from _ _ (or_from _ _ (or_from _ _ (above 9 13 c (omega arith)) (ne_eqb c 32 (λ e. omega arith))) (ne_eqb c 160 (λ e. omega arith))) (ne_eqb c 8232 (λ e. omega arith))) (ne_eqb c 8233 (λ e. omega arith))) (ne_eqb c 65279 (λ e. omega arith))

pub digit_starts : (c : ℕ) → is_ascii_digit c ≡ true → start_of c ≡ Digit
unfolding start_of
digit_starts c h =
    let low = leb-true 48 c (and_parts (leb 48 c) (leb c 57) h).0 in
    let high = leb-true c 57 (and_parts (leb 48 c) (leb c 57) h).1 in
    rw (digit_no_blank c low high, low_no_word c (omega arith) (λ e. omega arith), h) refl

pub word_starts : (c : ℕ) → starts_word c ≡ true → start_of c ≡ Word
unfolding start_of
word_starts c h =
    rw (false_from_ne_true (is_blank_char c) (λ blank. true≢false (sym h ∙ blank_no_word c blank)), h) refl

pub blank_starts : (c : ℕ) → is_blank_char c ≡ true → start_of c ≡ Blank
unfolding start_of
blank_starts c h = rw h refl

-- the characters that begin other pieces, each with what it begins

pub starts_at_39 : start_of 39 ≡ Quote
unfolding start_of unicode_ident
starts_at_39 = refl

pub starts_at_34 : start_of 34 ≡ Quote
unfolding start_of unicode_ident
starts_at_34 = refl

pub starts_at_46 : start_of 46 ≡ Dot
unfolding start_of unicode_ident
starts_at_46 = refl

pub starts_at_47 : start_of 47 ≡ Slash
unfolding start_of unicode_ident
starts_at_47 = refl

pub starts_at_123 : start_of 123 ≡ Mark
unfolding start_of unicode_ident
starts_at_123 = refl

pub starts_at_125 : start_of 125 ≡ Mark
unfolding start_of unicode_ident
starts_at_125 = refl

pub starts_at_40 : start_of 40 ≡ Mark
unfolding start_of unicode_ident
starts_at_40 = refl

pub starts_at_41 : start_of 41 ≡ Mark
unfolding start_of unicode_ident
starts_at_41 = refl

pub starts_at_91 : start_of 91 ≡ Mark
unfolding start_of unicode_ident
starts_at_91 = refl

pub starts_at_93 : start_of 93 ≡ Mark
unfolding start_of unicode_ident
starts_at_93 = refl

pub starts_at_44 : start_of 44 ≡ Mark
unfolding start_of unicode_ident
starts_at_44 = refl

pub starts_at_59 : start_of 59 ≡ Mark
unfolding start_of unicode_ident
starts_at_59 = refl

pub starts_at_58 : start_of 58 ≡ Mark
unfolding start_of unicode_ident
starts_at_58 = refl

pub starts_at_63 : start_of 63 ≡ Mark
unfolding start_of unicode_ident
starts_at_63 = refl

pub starts_at_61 : start_of 61 ≡ Mark
unfolding start_of unicode_ident
starts_at_61 = refl

pub starts_at_33 : start_of 33 ≡ Mark
unfolding start_of unicode_ident
starts_at_33 = refl

pub starts_at_60 : start_of 60 ≡ Mark
unfolding start_of unicode_ident
starts_at_60 = refl

pub starts_at_62 : start_of 62 ≡ Mark
unfolding start_of unicode_ident
starts_at_62 = refl

pub starts_at_43 : start_of 43 ≡ Mark
unfolding start_of unicode_ident
starts_at_43 = refl

pub starts_at_45 : start_of 45 ≡ Mark
unfolding start_of unicode_ident
starts_at_45 = refl

pub starts_at_42 : start_of 42 ≡ Mark
unfolding start_of unicode_ident
starts_at_42 = refl

pub starts_at_37 : start_of 37 ≡ Mark
unfolding start_of unicode_ident
starts_at_37 = refl

pub starts_at_38 : start_of 38 ≡ Mark
unfolding start_of unicode_ident
starts_at_38 = refl

pub starts_at_124 : start_of 124 ≡ Mark
unfolding start_of unicode_ident
starts_at_124 = refl
