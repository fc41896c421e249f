-- The number that is read is one, and no longer number begins there.
use Rattle.std.proofs.Common.{◌≡◌, ◌≢◌, ℕ, suc, ◌+◌, ◌<◌, ◌≤◌, Bool, true, false, cond, not, ◌&&◌, ◌||◌, eqb, ltb, leb, List, [], ◌∷◌, ◌++◌, Option, Some, None, length, take, drop, refl, sym, ap, ◌∙◌, subst, inl, inr, ◌⊎◌, append_assoc, length-append, add-one, arith}
use Rattle.std.specs.List.{list_all, prefix_len}
use Rattle.std.specs.Char.{is_ascii_digit, is_ascii_alphanumeric, is_digit, digit_value}
use Rattle.std.proofs.lemmas.Bool.{and_parts, and_from, or_parts, or_left, or_right, or_cases, cases_Bool, cases_lt, eqb-true, eqb-false, eq-eqb, ne_eqb, not-true, lt-ltb, le-ltb, le-leb, leb-true, ltb-true, ltb-false, true≢false, false_from_ne_true}
use Rattle.std.proofs.lemmas.List.{take-append-drop, drop_at, length-take-le, nil_from_length, append-nil, take-take, drop-take}
use Rattle.std.proofs.lemmas.List.Sums.{prefix_len-le-length}
use Rattle.unicode_ident.proofs.IdentLemmas.{is_xid_continue-ascii}
use Rattle.js_token.specs.Words.{is_whole}
use Rattle.lex_pieces.specs.Characters.{goes_on}
use Rattle.source_characters.specs.Words.{continues_word}
use Rattle.lex_pieces.specs.Numbers.{AreDigits, is_exponent_mark, IsExponent, IsMantissa, IsDecimal, base_of, IsInBase, IsNumber}
use Rattle.lex_pieces.specs.Escapes.{begins_with}
use Rattle.lex_pieces.specs.Reading.{digits_len, whole_len, fraction_len, sign_len, signed_len, exponent_len, mantissa_len, decimal_len, digits_in, based_len, plain_len, number_len}
use Rattle.lex_pieces.proofs.Runs.{Stops, run, run_passes, run_front}

-- WHAT FOLLOWS A NUMBER
-- ASCII letters and digits go on a word
alphanumeric : (c : ℕ) → is_ascii_alphanumeric c ≡ true → c < 128 → continues_word c ≡ true
alphanumeric c h small = or_right _ _ (is_xid_continue-ascii c small ∙ or_left _ _ h)

within : (low high c : ℕ) → low ≤ c → c ≤ high → (leb low c && leb c high) ≡ true
within low high c l h = and_from (leb low c) (leb c high) (le-leb low c l) (le-leb c high h)

-- a digit of a base up to 36
value_alphanumeric : (c : ℕ) → digit_value c < 36 → (is_ascii_alphanumeric c ≡ true) × (c < 128)
value_alphanumeric c h =
    elim (cases_lt c 48) [
      | inl a ↦ absurd (past a)
      | inr a ↦ elim (cases_lt c 58) [
        | inl b ↦ (or_left _ _ (or_left _ _ (within 48 57 c a (omega arith))), omega arith)
        | inr b ↦ elim (cases_lt c 65) [
          | inl d ↦ absurd (past2 a b d)
          | inr d ↦ elim (cases_lt c 91) [
            | inl e ↦ (or_left _ _ (or_right _ _ (within 65 90 c d (omega arith))), omega arith)
            | inr e ↦ elim (cases_lt c 97) [
              | inl f ↦ absurd (past3 a b d e f)
              | inr f ↦ elim (cases_lt c 123) [
                | inl g ↦ (or_right _ _ (within 97 122 c f (omega arith)), omega arith)
                | inr g ↦ absurd (past4 a b d e f g)
              ]
            ]
          ]
        ]
      ]
    ]
  where
    past : c < 48 → ⊥
    past a = let v : digit_value c ≡ 36 = rw (lt-ltb c 48 a) refl in omega arith

    past2 : 48 ≤ c → 58 ≤ c → c < 65 → ⊥
    past2 a b d = let v : digit_value c ≡ 36 = rw (le-ltb c 48 a, le-ltb c 58 b, lt-ltb c 65 d) refl in omega arith

    past3 : 48 ≤ c → 58 ≤ c → 65 ≤ c → 91 ≤ c → c < 97 → ⊥
    past3 a b d e f = let v : digit_value c ≡ 36 = rw (le-ltb c 48 a, le-ltb c 58 b, le-ltb c 65 d, le-ltb c 91 e, lt-ltb c 97 f) refl in omega arith

    past4 : 48 ≤ c → 58 ≤ c → 65 ≤ c → 91 ≤ c → 97 ≤ c → 123 ≤ c → ⊥
    past4 a b d e f g = let v : digit_value c ≡ 36 = rw (le-ltb c 48 a, le-ltb c 58 b, le-ltb c 65 d, le-ltb c 91 e, le-ltb c 97 f, le-ltb c 123 g) refl in omega arith

-- what doesn't go on begins with no digit of a base
no_digit_in : (base c : ℕ) (cs : List ℕ) → base ≤ 36 → goes_on (c ∷ cs) ≡ false → is_digit c base ≡ false
no_digit_in base c cs fits stops =
    false_from_ne_true _ (λ t.
    let small = ltb-true (digit_value c) base t in
    let letter = value_alphanumeric c (omega arith) in
    true≢false (sym (alphanumeric c letter.0 letter.1) ∙ (or_parts (is_ascii_digit c) (continues_word c) stops).1))

stops_digits_in : (base : ℕ) (rest : List ℕ) → base ≤ 36 → goes_on rest ≡ false → Stops (λ d. is_digit d base) rest
stops_digits_in base [] fits stops = tt
stops_digits_in base (c ∷ cs) fits stops = no_digit_in base c cs fits stops

stops_digits : (rest : List ℕ) → goes_on rest ≡ false → Stops is_ascii_digit rest
stops_digits [] stops = tt
stops_digits (c ∷ cs) stops = (or_parts (is_ascii_digit c) (continues_word c) stops).0

-- a letter that goes on a word doesn't follow
not_letter : (k c : ℕ) (cs : List ℕ) → continues_word k ≡ true → goes_on (c ∷ cs) ≡ false → eqb c k ≡ false
not_letter k c cs letter stops =
    false_from_ne_true _ (λ t. true≢false (sym letter ∙ subst (λ (x : ℕ). continues_word x ≡ false) (eqb-true c k t) (or_parts (is_ascii_digit c) (continues_word c) stops).1))

-- EXACT
no_base : (c : ℕ) (cs : List ℕ) → goes_on (c ∷ cs) ≡ false → base_of c ≡ None
no_base c cs h =
    rw (
      not_letter 120 c cs (alphanumeric 120 refl (omega arith)) h,
      not_letter 88 c cs (alphanumeric 88 refl (omega arith)) h,
      not_letter 111 c cs (alphanumeric 111 refl (omega arith)) h,
      not_letter 79 c cs (alphanumeric 79 refl (omega arith)) h,
      not_letter 98 c cs (alphanumeric 98 refl (omega arith)) h,
      not_letter 66 c cs (alphanumeric 66 refl (omega arith)) h,
    )
    refl

no_exponent : (rest : List ℕ) → goes_on rest ≡ false → exponent_len rest ≡ 0
no_exponent [] h = refl
no_exponent (c ∷ cs) h = rw (not_letter 101 c cs (alphanumeric 101 refl (omega arith)) h, not_letter 69 c cs (alphanumeric 69 refl (omega arith)) h) refl

digits_exact : (ds rest : List ℕ) → list_all is_ascii_digit ds ≡ true → Stops is_ascii_digit rest → digits_len (ds ++ rest) ≡ length ds
unfolding digits_len
digits_exact ds rest all stops = run is_ascii_digit ds rest all stops

whole_exact : (w rest : List ℕ) → is_whole w ≡ true → Stops is_ascii_digit rest → whole_len (w ++ rest) ≡ length w
unfolding whole_len
whole_exact [] rest h stops = absurd (true≢false (sym h))
whole_exact (d ∷ ds) rest h stops =
    elim (cases_Bool (eqb d 48)) [
      | inl e ↦
          let short : eqb (length ds) 0 ≡ true = rw e at h in
          let none = eqb-true (length ds) 0 short in
          rw e (omega arith)
      | inr e ↦
          let all : list_all is_ascii_digit (d ∷ ds) ≡ true = rw e at h in
          rw e (digits_exact (d ∷ ds) rest all stops)
    ]

fraction_exact : (ds rest : List ℕ) → list_all is_ascii_digit ds ≡ true → Stops is_ascii_digit rest → fraction_len (46 ∷ ds ++ rest) ≡ length ds + 1
fraction_exact ds rest all stops = ap (λ n. n + 1) (digits_exact ds rest all stops)

no_fraction : (rest : List ℕ) → begins_with 46 rest ≡ false → fraction_len rest ≡ 0
no_fraction [] h = refl
no_fraction (c ∷ cs) h = rw h refl

signed_at : (cs : List ℕ) (s m : ℕ) → sign_len cs ≡ s → digits_len (drop s cs) ≡ m → (m ≡ 0 → ⊥) → signed_len cs ≡ s + m
signed_at cs s m sign digits some = rw (sign, digits, ne_eqb m 0 some) refl

signed_exact : (sign ds rest : List ℕ) → (sign ≡ []) ⊎ ((sign ≡ 43 ∷ []) ⊎ (sign ≡ 45 ∷ [])) → AreDigits ds → Stops is_ascii_digit rest →
    signed_len (sign ++ (ds ++ rest)) ≡ length sign + length ds
signed_exact sign [] rest which digits stops = absurd (digits.1 refl)
signed_exact sign (d ∷ ds) rest which digits stops =
    let exact = digits_exact (d ∷ ds) rest digits.0 stops in
    let some : length (d ∷ ds) ≡ 0 → ⊥ = λ e. omega arith in
    elim which [
      | inl e ↦ subst (λ (x : List ℕ). signed_len (x ++ ((d ∷ ds) ++ rest)) ≡ length x + length (d ∷ ds)) (sym e)
          (signed_at ((d ∷ ds) ++ rest) 0 (length (d ∷ ds)) no_sign exact some)
      | inr signs ↦ elim signs [
        | inl e ↦ subst (λ (x : List ℕ). signed_len (x ++ ((d ∷ ds) ++ rest)) ≡ length x + length (d ∷ ds)) (sym e)
            (signed_at (43 ∷ ((d ∷ ds) ++ rest)) 1 (length (d ∷ ds)) refl exact some)
        | inr e ↦ subst (λ (x : List ℕ). signed_len (x ++ ((d ∷ ds) ++ rest)) ≡ length x + length (d ∷ ds)) (sym e)
            (signed_at (45 ∷ ((d ∷ ds) ++ rest)) 1 (length (d ∷ ds)) refl exact some)
      ]
    ]
  where
    no_sign : sign_len ((d ∷ ds) ++ rest) ≡ 0
    no_sign =
        let digit = (and_parts (is_ascii_digit d) (list_all is_ascii_digit ds) digits.0).0 in
        let low = leb-true 48 d (and_parts (leb 48 d) (leb d 57) digit).0 in
        rw (ne_eqb d 43 (λ e. omega arith), ne_eqb d 45 (λ e. omega arith)) refl

exponent_exact : (e rest : List ℕ) → IsExponent e → goes_on rest ≡ false → exponent_len (e ++ rest) ≡ length e
exponent_exact e rest (mark, sign, digits, is, which, all, text) stops =
    let signed = signed_exact sign digits rest which all (stops_digits rest stops) in
    let some : length sign + length digits ≡ 0 → ⊥ = λ z. all.1 (nil_from_length digits (omega arith)) in
    let regroup : (mark ∷ sign ++ digits) ++ rest ≡ mark ∷ (sign ++ (digits ++ rest)) = ap (λ (l : List ℕ). mark ∷ l) (append_assoc sign digits rest) in
    let size : length (mark ∷ sign ++ digits) ≡ length sign + length digits + 1 = omega (arith, length-append sign digits) in
    ap (λ l. exponent_len (l ++ rest)) text ∙ (ap exponent_len regroup ∙ (rw (signed, is, ne_eqb (length sign + length digits) 0 some) (sym size) ∙ ap length (sym text)))

-- what may stand behind a mantissa
after_digits : (e rest : List ℕ) → (e ≡ []) ⊎ IsExponent e → goes_on rest ≡ false → Stops is_ascii_digit (e ++ rest)
after_digits e rest which stops =
    elim which [
      | inl none ↦ subst (λ (x : List ℕ). Stops is_ascii_digit (x ++ rest)) (sym none) (stops_digits rest stops)
      | inr some ↦ subst (λ (x : List ℕ). Stops is_ascii_digit (x ++ rest)) (sym some.6) (mark_no_digit some.0 some.3)
    ]
  where
    mark_no_digit : (c : ℕ) → is_exponent_mark c ≡ true → is_ascii_digit c ≡ false
    mark_no_digit c h =
        elim (or_cases (eqb c 101) (eqb c 69) h) [
          | inl t ↦ subst (λ (k : ℕ). is_ascii_digit k ≡ false) (sym (eqb-true c 101 t)) refl
          | inr t ↦ subst (λ (k : ℕ). is_ascii_digit k ≡ false) (sym (eqb-true c 69 t)) refl
        ]

after_exponent : (e rest : List ℕ) → (e ≡ []) ⊎ IsExponent e → goes_on rest ≡ false → exponent_len (e ++ rest) ≡ length e
after_exponent e rest which stops =
    elim which [
      | inl none ↦ subst (λ (x : List ℕ). exponent_len (x ++ rest) ≡ length x) (sym none) (no_exponent rest stops)
      | inr some ↦ exponent_exact e rest some stops
    ]

mantissa_at : (cs : List ℕ) (w f : ℕ) → whole_len cs ≡ w → fraction_len (drop w cs) ≡ f → (w ≡ 0 → 2 ≤ f) → mantissa_len cs ≡ w + f
unfolding mantissa_len
mantissa_at cs w f whole fraction enough =
    elim (cases_Bool (eqb w 0)) [
      | inl e ↦ rw (whole, fraction, e, le-ltb f 2 (enough (eqb-true w 0 e))) refl
      | inr e ↦ rw (whole, fraction, e) refl
    ]

decimal_at : (cs : List ℕ) (m x : ℕ) → mantissa_len cs ≡ m → (m ≡ 0 → ⊥) → exponent_len (drop m cs) ≡ x → decimal_len cs ≡ m + x
unfolding decimal_len
decimal_at cs m x mantissa some exponent = rw (mantissa, ne_eqb m 0 some, exponent) refl

decimal_none : (cs : List ℕ) → eqb (mantissa_len cs) 0 ≡ true → decimal_len cs ≡ 0
unfolding decimal_len
decimal_none cs e = rw e refl

decimal_total : (cs : List ℕ) → eqb (mantissa_len cs) 0 ≡ false → decimal_len cs ≡ mantissa_len cs + exponent_len (drop (mantissa_len cs) cs)
unfolding decimal_len
decimal_total cs e = rw e refl

number_blocked : (cs : List ℕ) → eqb (based_len cs) 0 ≡ false → goes_on (drop (based_len cs) cs) ≡ true → number_len cs ≡ 0
unfolding number_len
number_blocked cs e d = rw (e, d) refl

number_based : (cs : List ℕ) → eqb (based_len cs) 0 ≡ false → goes_on (drop (based_len cs) cs) ≡ false → number_len cs ≡ based_len cs
unfolding number_len
number_based cs e d = rw (e, d) refl

plain_decimal : (cs : List ℕ) (n : ℕ) → decimal_len cs ≡ n → goes_on (drop n cs) ≡ false → plain_len cs ≡ n
unfolding plain_len
plain_decimal cs n e stops = rw (e, stops) refl

dotted_exact : (w ds rest : List ℕ) → is_whole w ≡ true → list_all is_ascii_digit ds ≡ true → Stops is_ascii_digit rest →
    mantissa_len ((w ++ 46 ∷ ds) ++ rest) ≡ length (w ++ 46 ∷ ds)
dotted_exact w ds rest whole all stops =
    let text : List ℕ = w ++ (46 ∷ ds ++ rest) in
    let regroup : (w ++ 46 ∷ ds) ++ rest ≡ text = append_assoc w (46 ∷ ds) rest in
    let fraction : fraction_len (drop (length w) text) ≡ length ds + 1 =
    ap fraction_len (drop_at w (46 ∷ ds ++ rest) (length w) refl) ∙ fraction_exact ds rest all stops in
    ap mantissa_len regroup
    ∙ (mantissa_at text (length w) (length ds + 1) (whole_exact w (46 ∷ ds ++ rest) whole refl) fraction (λ none. absurd (some w whole none))
    ∙ omega (arith, length-append w (46 ∷ ds)))
  where
    some : (x : List ℕ) → is_whole x ≡ true → length x ≡ 0 → ⊥
    some [] h none = true≢false (sym h)
    some (d ∷ x) h none = omega arith

point_exact : (ds rest : List ℕ) → AreDigits ds → Stops is_ascii_digit rest → mantissa_len (46 ∷ ds ++ rest) ≡ length ds + 1
unfolding whole_len digits_len
point_exact ds rest digits stops =
    mantissa_at (46 ∷ ds ++ rest) 0 (length ds + 1) refl (fraction_exact ds rest digits.0 stops) (λ e. some ds digits.1) ∙ omega arith
  where
    some : (x : List ℕ) → x ≢ [] → 2 ≤ length x + 1
    some [] h = absurd (h refl)
    some (d ∷ x) h = omega arith

whole_some : (w : List ℕ) → is_whole w ≡ true → length w ≡ 0 → ⊥
whole_some [] h none = true≢false (sym h)
whole_some (d ∷ x) h none = omega arith

bare_exact : (w rest : List ℕ) → is_whole w ≡ true → Stops is_ascii_digit rest → begins_with 46 rest ≡ false → mantissa_len (w ++ rest) ≡ length w
bare_exact w rest whole stops dot =
    mantissa_at (w ++ rest) (length w) 0 (whole_exact w rest whole stops)
    (ap fraction_len (drop_at w rest (length w) refl) ∙ no_fraction rest dot) (λ none. absurd (whole_some w whole none)) ∙ omega arith

-- a mantissa of known length, and what may stand behind it
decimal_bound : (m e rest : List ℕ) → mantissa_len (m ++ (e ++ rest)) ≡ length m → (length m ≡ 0 → ⊥) → (e ≡ []) ⊎ IsExponent e → goes_on rest ≡ false →
    plain_len ((m ++ e) ++ rest) ≡ length (m ++ e)
decimal_bound m e rest mantissa some which stops =
    let exponent : exponent_len (drop (length m) (m ++ (e ++ rest))) ≡ length e =
    ap exponent_len (drop_at m (e ++ rest) (length m) refl) ∙ after_exponent e rest which stops in
    let size : decimal_len ((m ++ e) ++ rest) ≡ length (m ++ e) =
    ap decimal_len (append_assoc m e rest) ∙ (decimal_at (m ++ (e ++ rest)) (length m) (length e) mantissa some exponent ∙ sym (length-append m e)) in
    plain_decimal ((m ++ e) ++ rest) (length (m ++ e)) size (ap goes_on (drop_at (m ++ e) rest (length (m ++ e)) refl) ∙ stops)

whole_le_decimal : (cs : List ℕ) → whole_len cs ≤ decimal_len cs
unfolding decimal_len mantissa_len
whole_le_decimal cs =
    elim (cases_Bool (eqb (whole_len cs) 0)) [
      | inl e ↦ let none = eqb-true (whole_len cs) 0 e in omega arith
      | inr e ↦
          let some = eqb-false (whole_len cs) 0 e in
          let m : ℕ = whole_len cs + fraction_len (drop (whole_len cs) cs) in
          rw (e, ne_eqb m 0 (λ z. some (omega arith))) (omega arith)
    ]

plain_whole : (cs : List ℕ) (n : ℕ) → whole_len cs ≡ n → goes_on (drop n cs) ≡ false → n ≤ plain_len cs
unfolding plain_len
plain_whole cs n e stops =
    elim (cases_Bool (goes_on (drop (decimal_len cs) cs))) [
      | inl d ↦ rw (d, e, stops) (omega arith)
      | inr d ↦ rw d (omega (arith, whole_le_decimal cs))
    ]

-- no letter of a base behind the first character
abbrev LetterFree : List ℕ → Type 0
LetterFree [] = Unit {0}
LetterFree (c ∷ cs) = base_of c ≡ None

based_none : (c : ℕ) (cs : List ℕ) → (c ≡ 48 → LetterFree cs) → based_len (c ∷ cs) ≡ 0
unfolding based_len
based_none c [] free = refl
based_none c (letter ∷ cs) free =
    elim (cases_Bool (eqb c 48)) [
      | inl e ↦ rw (e, free (eqb-true c 48 e)) refl
      | inr e ↦ rw e refl
    ]

free_behind : (e rest : List ℕ) → (e ≡ []) ⊎ IsExponent e → goes_on rest ≡ false → LetterFree (e ++ rest)
free_behind e rest which stops =
    elim which [
      | inl none ↦ subst (λ (x : List ℕ). LetterFree (x ++ rest)) (sym none) (free rest stops)
      | inr some ↦ subst (λ (x : List ℕ). LetterFree (x ++ rest)) (sym some.6) (mark_free some.0 some.3)
    ]
  where
    free : (r : List ℕ) → goes_on r ≡ false → LetterFree r
    free [] h = tt
    free (c ∷ cs) h = no_base c cs h

    mark_free : (c : ℕ) → is_exponent_mark c ≡ true → base_of c ≡ None
    mark_free c h =
        elim (or_cases (eqb c 101) (eqb c 69) h) [
          | inl t ↦ subst (λ (k : ℕ). base_of k ≡ None) (sym (eqb-true c 101 t)) refl
          | inr t ↦ subst (λ (k : ℕ). base_of k ≡ None) (sym (eqb-true c 69 t)) refl
        ]

-- a whole number that begins with `0` is `0`
whole_free : (w rest : List ℕ) → is_whole w ≡ true → LetterFree rest → based_len (w ++ rest) ≡ 0
whole_free [] rest h free = absurd (true≢false (sym h))
whole_free (d ∷ ds) rest h free = based_none d (ds ++ rest) (λ zero. alone ds zero h)
  where
    alone : (xs : List ℕ) → d ≡ 48 → is_whole (d ∷ xs) ≡ true → LetterFree (xs ++ rest)
    alone [] zero h0 = free
    alone (x ∷ xs) zero h0 =
        let short : eqb (length (x ∷ xs)) 0 ≡ true = rw (eq-eqb d 48 zero) at h0 in
        let none = eqb-true (length (x ∷ xs)) 0 short in
        absurd (omega arith)

number_plain : (cs : List ℕ) → based_len cs ≡ 0 → number_len cs ≡ plain_len cs
unfolding number_len
number_plain cs none = rw (eq-eqb (based_len cs) 0 none) refl

-- no decimal number is longer than the one that is read
tail_exact : (m e rest : List ℕ) → mantissa_len (m ++ (e ++ rest)) ≡ length m → (length m ≡ 0 → ⊥) → based_len (m ++ (e ++ rest)) ≡ 0 →
    (e ≡ []) ⊎ IsExponent e → goes_on rest ≡ false → length (m ++ e) ≤ number_len ((m ++ e) ++ rest)
tail_exact m e rest mantissa some based which stops =
    let plain = number_plain ((m ++ e) ++ rest) (ap based_len (append_assoc m e rest) ∙ based) in
    let exact = decimal_bound m e rest mantissa some which stops in
    omega (arith, plain, exact)

-- a whole number, behind which neither a dot nor what goes on stands, is read whole
pub whole_number : (w rest : List ℕ) → is_whole w ≡ true → goes_on rest ≡ false → begins_with 46 rest ≡ false → number_len (w ++ rest) ≡ length w
whole_number w rest whole stops dot =
    number_plain (w ++ rest) (whole_free w rest whole (free_behind [] rest (inl refl) stops))
    ∙ (ap (λ (l : List ℕ). plain_len (l ++ rest)) (sym (append-nil w))
    ∙ (decimal_bound w [] rest (bare_exact w rest whole (stops_digits rest stops) dot) (whole_some w whole) (inl refl) stops ∙ ap length (append-nil w)))

tail_bare : (w e rest : List ℕ) → is_whole w ≡ true → (e ≡ []) ⊎ IsExponent e → goes_on rest ≡ false → length (w ++ e) ≤ number_len ((w ++ e) ++ rest)
tail_bare w e rest whole which stops =
    elim which [
      | inl none ↦ subst (λ (x : List ℕ). length (w ++ x) ≤ number_len ((w ++ x) ++ rest)) (sym none)
          (subst (λ (x : List ℕ). length x ≤ number_len (x ++ rest)) (sym (append-nil w)) alone)
      | inr some ↦
          tail_exact w e rest (bare_exact w (e ++ rest) whole (after_digits e rest (inr some) stops) (no_dot some)) (whole_some w whole)
          (whole_free w (e ++ rest) whole (free_behind e rest (inr some) stops)) (inr some) stops
    ]
  where
    alone : length w ≤ number_len (w ++ rest)
    alone =
        let plain = number_plain (w ++ rest) (whole_free w rest whole (free_behind [] rest (inl refl) stops)) in
        let least = plain_whole (w ++ rest) (length w) (whole_exact w rest whole (stops_digits rest stops)) (ap goes_on (drop_at w rest (length w) refl) ∙ stops) in
        omega (arith, plain, least)

    mark_no_dot : (c : ℕ) → is_exponent_mark c ≡ true → eqb c 46 ≡ false
    mark_no_dot c h =
        elim (or_cases (eqb c 101) (eqb c 69) h) [
          | inl t ↦ subst (λ (k : ℕ). eqb k 46 ≡ false) (sym (eqb-true c 101 t)) refl
          | inr t ↦ subst (λ (k : ℕ). eqb k 46 ≡ false) (sym (eqb-true c 69 t)) refl
        ]

    no_dot : IsExponent e → begins_with 46 (e ++ rest) ≡ false
    no_dot some = subst (λ (x : List ℕ). begins_with 46 (x ++ rest) ≡ false) (sym some.6) (mark_no_dot some.0 some.3)

tail_dotted : (w ds e rest : List ℕ) → is_whole w ≡ true → list_all is_ascii_digit ds ≡ true → (e ≡ []) ⊎ IsExponent e → goes_on rest ≡ false →
    length ((w ++ 46 ∷ ds) ++ e) ≤ number_len (((w ++ 46 ∷ ds) ++ e) ++ rest)
tail_dotted w ds e rest whole all which stops =
    tail_exact (w ++ 46 ∷ ds) e rest (dotted_exact w ds (e ++ rest) whole all (after_digits e rest which stops))
    (λ none. absurd (omega (arith, length-append w (46 ∷ ds), none)))
    (ap based_len (append_assoc w (46 ∷ ds) (e ++ rest)) ∙ whole_free w (46 ∷ (ds ++ (e ++ rest))) whole refl) which stops

tail_point : (ds e rest : List ℕ) → AreDigits ds → (e ≡ []) ⊎ IsExponent e → goes_on rest ≡ false →
    length ((46 ∷ ds) ++ e) ≤ number_len (((46 ∷ ds) ++ e) ++ rest)
tail_point ds e rest digits which stops =
    tail_exact (46 ∷ ds) e rest (point_exact ds (e ++ rest) digits (after_digits e rest which stops) ∙ omega arith)
    (λ none. absurd (omega arith)) (based_none 46 (ds ++ (e ++ rest)) (λ zero. absurd (omega arith))) which stops

tail_bound : (m e rest : List ℕ) → IsMantissa m → (e ≡ []) ⊎ IsExponent e → goes_on rest ≡ false → length (m ++ e) ≤ number_len ((m ++ e) ++ rest)
tail_bound m e rest (inl whole) which stops = tail_bare m e rest whole which stops
tail_bound m e rest (inr (inl (w, ds, whole, all, text))) which stops =
    subst (λ (x : List ℕ). length (x ++ e) ≤ number_len ((x ++ e) ++ rest)) (sym (text ∙ append_assoc w (46 ∷ []) ds)) (tail_dotted w ds e rest whole all which stops)
tail_bound m e rest (inr (inr (ds, digits, text))) which stops =
    subst (λ (x : List ℕ). length (x ++ e) ≤ number_len ((x ++ e) ++ rest)) (sym text) (tail_point ds e rest digits which stops)

base_small : (c base : ℕ) → base_of c ≡ Some base → base ≤ 36
base_small c base h =
    pick (eqb c 120 || eqb c 88) 16 base _ h (omega arith) (λ h1.
    pick (eqb c 111 || eqb c 79) 8 base _ h1 (omega arith) (λ h2.
    pick (eqb c 98 || eqb c 66) 2 base _ h2 (omega arith) (λ h3. absurd (cc))))
  where
    pick : (b : Bool) (n base : ℕ) (rest : Option ℕ) → cond b (Some n) rest ≡ Some base → n ≤ 36 → (rest ≡ Some base → base ≤ 36) → base ≤ 36
    pick true n base rest h fits later = let same : n ≡ base = cc in omega arith
    pick false n base rest h fits later = later h

based_size : (letter base : ℕ) (ds rest : List ℕ) → base_of letter ≡ Some base → list_all (λ d. is_digit d base) ds ≡ true → ds ≢ [] → goes_on rest ≡ false →
    based_len (48 ∷ letter ∷ (ds ++ rest)) ≡ length ds + 2
unfolding based_len
based_size letter base ds rest letters all some stops =
    rw (digits, ne_eqb (length ds) 0 (λ e. some (nil_from_length ds e))) refl
  where
    digits : digits_in (base_of letter) (ds ++ rest) ≡ length ds
    digits = ap (λ o. digits_in o (ds ++ rest)) letters ∙ run (λ d. is_digit d base) ds rest all (stops_digits_in base rest (base_small letter base letters) stops)

based_exact : (letter base : ℕ) (ds rest : List ℕ) → base_of letter ≡ Some base → list_all (λ d. is_digit d base) ds ≡ true → ds ≢ [] → goes_on rest ≡ false →
    number_len ((48 ∷ letter ∷ ds) ++ rest) ≡ length ds + 2
unfolding number_len
based_exact letter base ds rest letters all some stops =
    rw (based_size letter base ds rest letters all some stops, ne_eqb (length ds + 2) 0 (λ e. omega arith), drop_at (48 ∷ letter ∷ ds) rest (length ds + 2) (omega arith), stops) refl

pub number_bound : (text rest : List ℕ) → IsNumber text rest → length text ≤ number_len (text ++ rest)
number_bound text rest (inl (inl mantissa), stops) =
    subst (λ (x : List ℕ). length x ≤ number_len (x ++ rest)) (append-nil text) (tail_bound text [] rest mantissa (inl refl) stops)
number_bound text rest (inl (inr (m, e, mantissa, exponent, whole)), stops) =
    subst (λ (x : List ℕ). length x ≤ number_len (x ++ rest)) (sym whole) (tail_bound m e rest mantissa (inr exponent) stops)
number_bound text rest (inr (letter, base, ds, letters, all, some, whole), stops) =
    subst (λ (x : List ℕ). length x ≤ number_len (x ++ rest)) (sym whole) (omega (arith, based_exact letter base ds rest letters all some stops))

-- SOUND
take_add : (m n : ℕ) (cs : List ℕ) → take (m + n) cs ≡ take m cs ++ take n (drop m cs)
take_add m n cs = sym (take-append-drop m (take (m + n) cs)) ∙ (ap (λ l. l ++ drop m (take (m + n) cs)) (take-take m (m + n) cs (omega arith)) ∙ ap (λ l. take m cs ++ l) (drop-take m n cs))

whole_sound : (cs : List ℕ) → (whole_len cs ≡ 0 → ⊥) → is_whole (take (whole_len cs) cs) ≡ true
unfolding whole_len digits_len
whole_sound [] some = absurd (some refl)
whole_sound (c ∷ cs) some =
    elim (cases_Bool (eqb c 48)) [
      | inl e ↦ rw (e, e) refl
      | inr e ↦ elim (cases_Bool (is_ascii_digit c)) [
        | inl d ↦ rw (e, run_front is_ascii_digit c cs d, e) (and_from (is_ascii_digit c) _ d (run_passes is_ascii_digit cs))
        | inr d ↦ absurd (some (rw (e, d) refl))
      ]
    ]

-- a dot and digits
fraction_sound : (cs : List ℕ) → (fraction_len cs ≡ 0 → ⊥) →
    (ds : List ℕ) × (list_all is_ascii_digit ds ≡ true) × (take (fraction_len cs) cs ≡ 46 ∷ ds) × (fraction_len cs ≡ length ds + 1)
unfolding digits_len
fraction_sound [] some = absurd (some refl)
fraction_sound (c ∷ cs) some =
    elim (cases_Bool (eqb c 46)) [
      | inl e ↦
          let size : length (take (prefix_len is_ascii_digit cs) cs) ≡ prefix_len is_ascii_digit cs = length-take-le _ cs (prefix_len-le-length is_ascii_digit cs) in (
            take (prefix_len is_ascii_digit cs) cs,
            run_passes is_ascii_digit cs,
            rw (e, add-one) (ap (λ (k : ℕ). k ∷ take (prefix_len is_ascii_digit cs) cs) (eqb-true c 46 e)),
            rw e (ap (λ n. n + 1) (sym size)),
          )
      | inr e ↦ absurd (some (rw e refl))
    ]

signed_sound : (cs : List ℕ) → (signed_len cs ≡ 0 → ⊥) →
    (sign : List ℕ) × (ds : List ℕ) × ((sign ≡ []) ⊎ ((sign ≡ 43 ∷ []) ⊎ (sign ≡ 45 ∷ []))) × AreDigits ds × (take (signed_len cs) cs ≡ sign ++ ds)
unfolding digits_len
signed_sound cs some =
    elim (cases_Bool (eqb digits 0)) [
      | inl e ↦ absurd (some (rw e refl))
      | inr e ↦
          let there = eqb-false digits 0 e in
          let total : signed_len cs ≡ s + digits = rw e refl in
          let size : length (take digits (drop s cs)) ≡ digits = length-take-le digits (drop s cs) (prefix_len-le-length is_ascii_digit (drop s cs)) in (
            take s cs,
            take digits (drop s cs),
            sign_of cs,
            (run_passes is_ascii_digit (drop s cs), λ none. there (sym size ∙ ap length none)),
            ap (λ n. take n cs) total ∙ take_add s digits cs,
          )
    ]
  where
    s : ℕ
    s = sign_len cs

    digits : ℕ
    digits = prefix_len is_ascii_digit (drop (sign_len cs) cs)

    sign_of : (xs : List ℕ) → (take (sign_len xs) xs ≡ []) ⊎ ((take (sign_len xs) xs ≡ 43 ∷ []) ⊎ (take (sign_len xs) xs ≡ 45 ∷ []))
    sign_of [] = inl refl
    sign_of (x ∷ xs) =
        elim (cases_Bool (eqb x 43 || eqb x 45)) [
          | inl t ↦ elim (or_cases (eqb x 43) (eqb x 45) t) [
            | inl plus ↦ inr (inl (rw t (ap (λ (k : ℕ). k ∷ []) (eqb-true x 43 plus))))
            | inr minus ↦ inr (inr (rw t (ap (λ (k : ℕ). k ∷ []) (eqb-true x 45 minus))))
          ]
          | inr f ↦ inl (rw f refl)
        ]

exponent_sound : (cs : List ℕ) → (exponent_len cs ≡ 0 → ⊥) → IsExponent (take (exponent_len cs) cs)
exponent_sound [] some = absurd (some refl)
exponent_sound (c ∷ cs) some =
    elim (cases_Bool (is_exponent_mark c && not (eqb (signed_len cs) 0))) [
      | inl e ↦
          let tests = and_parts (is_exponent_mark c) (not (eqb (signed_len cs) 0)) e in
          let there = eqb-false (signed_len cs) 0 (not-true (eqb (signed_len cs) 0) tests.1) in
          let found = signed_sound cs there in
          let total : exponent_len (c ∷ cs) ≡ signed_len cs + 1 = rw e refl in
          (c, found.0, found.1, tests.0, found.2, found.3, ap (λ n. take n (c ∷ cs)) total ∙ rw add-one (ap (λ (l : List ℕ). c ∷ l) found.4))
      | inr e ↦ absurd (some (rw e refl))
    ]

mantissa_total : (cs : List ℕ) → (mantissa_len cs ≡ 0 → ⊥) →
    (mantissa_len cs ≡ whole_len cs + fraction_len (drop (whole_len cs) cs)) × (whole_len cs ≡ 0 → 2 ≤ fraction_len (drop (whole_len cs) cs))
unfolding mantissa_len
mantissa_total cs some =
    elim (cases_Bool (eqb (whole_len cs) 0)) [
      | inl e ↦ elim (cases_Bool (ltb (fraction_len (drop (whole_len cs) cs)) 2)) [
        | inl less ↦ absurd (some (rw (e, less) refl))
        | inr less ↦ (rw (e, less) refl, λ none. ltb-false (fraction_len (drop (whole_len cs) cs)) 2 less)
      ]
      | inr e ↦ (rw e refl, λ none. absurd (eqb-false (whole_len cs) 0 e none))
    ]

mantissa_sound : (cs : List ℕ) → (mantissa_len cs ≡ 0 → ⊥) → IsMantissa (take (mantissa_len cs) cs)
mantissa_sound cs some =
    let total = mantissa_total cs some in
    let w : ℕ = whole_len cs in
    let f : ℕ = fraction_len (drop w cs) in
    let text : take (mantissa_len cs) cs ≡ take w cs ++ take f (drop w cs) = ap (λ n. take n cs) total.0 ∙ take_add w f cs in
    subst (λ l. IsMantissa l) (sym text)
    (elim (cases_Bool (eqb w 0)) [
      | inl e ↦
          let none = eqb-true w 0 e in
          let found = fraction_sound (drop w cs) (λ z. absurd (omega (arith, total.1 none, z))) in
          let front : take w cs ≡ [] = ap (λ n. take n cs) none in
          inr (inr (found.0, (found.1, λ z. absurd (omega (arith, total.1 none, found.3, ap length z))), ap (λ l. l ++ take f (drop w cs)) front ∙ found.2))
      | inr e ↦
          let whole = whole_sound cs (eqb-false w 0 e) in
          elim (cases_Bool (eqb f 0)) [
            | inl z ↦
                let back : take f (drop w cs) ≡ [] = ap (λ n. take n (drop w cs)) (eqb-true f 0 z) in
                inl (subst (λ l. is_whole l ≡ true) (sym (append-nil (take w cs)) ∙ ap (λ l. take w cs ++ l) (sym back)) whole)
            | inr z ↦
                let found = fraction_sound (drop w cs) (eqb-false f 0 z) in
                inr (inl (take w cs, found.0, whole, found.1, ap (λ l. take w cs ++ l) found.2 ∙ sym (append_assoc (take w cs) (46 ∷ []) found.0)))
          ]
    ])

decimal_sound : (cs : List ℕ) → (decimal_len cs ≡ 0 → ⊥) → IsDecimal (take (decimal_len cs) cs)
decimal_sound cs some =
    elim (cases_Bool (eqb (mantissa_len cs) 0)) [
      | inl e ↦ absurd (some (none e))
      | inr e ↦
          let m : ℕ = mantissa_len cs in
          let x : ℕ = exponent_len (drop m cs) in
          let there = eqb-false m 0 e in
          let text : take (decimal_len cs) cs ≡ take m cs ++ take x (drop m cs) = ap (λ n. take n cs) (total e) ∙ take_add m x cs in
          subst (λ l. IsDecimal l) (sym text)
          (elim (cases_Bool (eqb x 0)) [
            | inl z ↦
                let back : take x (drop m cs) ≡ [] = ap (λ n. take n (drop m cs)) (eqb-true x 0 z) in
                inl (subst (λ l. IsMantissa l) (sym (append-nil (take m cs)) ∙ ap (λ l. take m cs ++ l) (sym back)) (mantissa_sound cs there))
            | inr z ↦ inr (take m cs, take x (drop m cs), mantissa_sound cs there, exponent_sound (drop m cs) (eqb-false x 0 z), refl)
          ])
    ]
  where
    none : eqb (mantissa_len cs) 0 ≡ true → decimal_len cs ≡ 0
    none e = decimal_none cs e

    total : eqb (mantissa_len cs) 0 ≡ false → decimal_len cs ≡ mantissa_len cs + exponent_len (drop (mantissa_len cs) cs)
    total e = decimal_total cs e

plain_sound : (cs : List ℕ) (n : ℕ) → plain_len cs ≡ n → (n ≡ 0 → ⊥) → IsDecimal (take n cs) × (goes_on (drop n cs) ≡ false)
unfolding plain_len
plain_sound cs n e some =
    elim (cases_Bool (goes_on (drop (decimal_len cs) cs))) [
      | inr d ↦
          let same : decimal_len cs ≡ n = rw d at e in
          (subst (λ (k : ℕ). IsDecimal (take k cs)) same (decimal_sound cs (λ z. some (sym same ∙ z))), subst (λ (k : ℕ). goes_on (drop k cs) ≡ false) same d)
      | inl d ↦ elim (cases_Bool (goes_on (drop (whole_len cs) cs))) [
        | inl f ↦ absurd (some (sym (rw (d, f) at e)))
        | inr f ↦
            let same : whole_len cs ≡ n = rw (d, f) at e in
            (subst (λ (k : ℕ). IsDecimal (take k cs)) same (inl (inl (whole_sound cs (λ z. some (sym same ∙ z))))), subst (λ (k : ℕ). goes_on (drop k cs) ≡ false) same f)
      ]
    ]

based_sound : (cs : List ℕ) → (based_len cs ≡ 0 → ⊥) → IsInBase (take (based_len cs) cs)
unfolding based_len
based_sound [] some = absurd (some refl)
based_sound (c ∷ []) some = absurd (some refl)
based_sound (c ∷ letter ∷ cs) some =
    elim (cases_Bool (eqb c 48 && not (eqb (digits_in (base_of letter) cs) 0))) [
      | inr e ↦ absurd (some (rw e refl))
      | inl e ↦
          let tests = and_parts (eqb c 48) (not (eqb (digits_in (base_of letter) cs) 0)) e in
          let there = eqb-false (digits_in (base_of letter) cs) 0 (not-true (eqb (digits_in (base_of letter) cs) 0) tests.1) in
          rw e (found (base_of letter) refl (eqb-true c 48 tests.0) there)
    ]
  where
    found : (o : Option ℕ) → base_of letter ≡ o → c ≡ 48 → (digits_in o cs ≡ 0 → ⊥) → IsInBase (take (digits_in o cs + 2) (c ∷ letter ∷ cs))
    found None is zero there = absurd (there refl)
    found (Some base) is zero there =
        let n : ℕ = prefix_len (λ d. is_digit d base) cs in
        let size : length (take n cs) ≡ n = length-take-le n cs (prefix_len-le-length (λ d. is_digit d base) cs) in
        let two_more : n + 2 ≡ suc (suc n) = omega arith in (
          letter,
          base,
          take n cs,
          is,
          run_passes (λ d. is_digit d base) cs,
          λ none. there (sym size ∙ ap length none),
          ap (λ k. take k (c ∷ letter ∷ cs)) two_more ∙ ap (λ (k : ℕ). k ∷ letter ∷ take n cs) zero,
        )

pub number_sound : (cs : List ℕ) → (number_len cs ≡ 0 → ⊥) → IsNumber (take (number_len cs) cs) (drop (number_len cs) cs)
number_sound cs some =
    elim (cases_Bool (eqb (based_len cs) 0)) [
      | inl e ↦
          let same = number_plain cs (eqb-true (based_len cs) 0 e) in
          let found = plain_sound cs (number_len cs) (sym same) some in
          (inl found.0, found.1)
      | inr e ↦ elim (cases_Bool (goes_on (drop (based_len cs) cs))) [
        | inl d ↦ absurd (some (number_blocked cs e d))
        | inr d ↦
            let same = number_based cs e d in
            subst (λ (k : ℕ). IsNumber (take k cs) (drop k cs)) (sym same) (inr (based_sound cs (eqb-false (based_len cs) 0 e)), d)
      ]
    ]
