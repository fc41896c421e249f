-- A number reaches no further than its text.
use Rattle.std.proofs.Common.{◌≡◌, ℕ, ◌+◌, ◌-◌, ◌≤◌, Bool, true, false, cond, List, [], ◌∷◌, Option, Some, None, length, drop, length-drop, arith}
use Rattle.std.specs.Prelude.{◌==◌, ◌&&◌, ◌||◌, not, nat_lt}
use Rattle.std.specs.Char.{is_ascii_digit, is_digit}
use Rattle.std.proofs.lemmas.List.Sums.{prefix_len-le-length}
use Rattle.lex_pieces.specs.Characters.{goes_on}
use Rattle.lex_pieces.specs.Numbers.{is_exponent_mark, base_of}
use Rattle.lex_pieces.specs.Reading.{digits_len, whole_len, fraction_len, sign_len, signed_len, exponent_len, mantissa_len, decimal_len, digits_in, based_len, plain_len, number_len}

either : (b : Bool) (x y n : ℕ) → x ≤ n → y ≤ n → cond b x y ≤ n
either true x y n p q = p
either false x y n p q = q

digits_within : (cs : List ℕ) → digits_len cs ≤ length cs
unfolding digits_len
digits_within cs = prefix_len-le-length is_ascii_digit cs

whole_within : (cs : List ℕ) → whole_len cs ≤ length cs
unfolding whole_len
whole_within [] = omega arith
whole_within (c ∷ cs) = either (c == 48) 1 (digits_len (c ∷ cs)) (length (c ∷ cs)) (omega arith) (digits_within (c ∷ cs))

fraction_within : (cs : List ℕ) → fraction_len cs ≤ length cs
fraction_within [] = omega arith
fraction_within (c ∷ cs) = let digits = digits_within cs in either (c == 46) (digits_len cs + 1) 0 (length (c ∷ cs)) (omega (arith, digits)) (omega arith)

sign_within : (cs : List ℕ) → sign_len cs ≤ length cs
sign_within [] = omega arith
sign_within (c ∷ cs) = either ((c == 43) || (c == 45)) 1 0 (length (c ∷ cs)) (omega arith) (omega arith)

signed_within : (cs : List ℕ) → signed_len cs ≤ length cs
signed_within cs =
    let digits = digits_within (drop (sign_len cs) cs) in
    let sign = sign_within cs in
    either (digits_len (drop (sign_len cs) cs) == 0) 0 (sign_len cs + digits_len (drop (sign_len cs) cs)) (length cs) (omega arith) (omega (arith, digits, sign, length-drop (sign_len cs) cs))

exponent_within : (cs : List ℕ) → exponent_len cs ≤ length cs
exponent_within [] = omega arith
exponent_within (c ∷ cs) = let signed = signed_within cs in either (is_exponent_mark c && not (signed_len cs == 0)) (signed_len cs + 1) 0 (length (c ∷ cs)) (omega (arith, signed)) (omega arith)

mantissa_within : (cs : List ℕ) → mantissa_len cs ≤ length cs
unfolding mantissa_len
mantissa_within cs =
    let whole = whole_within cs in
    let fraction = fraction_within (drop (whole_len cs) cs) in
    either ((whole_len cs == 0) && nat_lt (fraction_len (drop (whole_len cs) cs)) 2) 0 (whole_len cs + fraction_len (drop (whole_len cs) cs)) (length cs) (omega arith)
    (omega (arith, whole, fraction, length-drop (whole_len cs) cs))

decimal_within : (cs : List ℕ) → decimal_len cs ≤ length cs
unfolding decimal_len
decimal_within cs =
    let mantissa = mantissa_within cs in
    let exponent = exponent_within (drop (mantissa_len cs) cs) in
    either (mantissa_len cs == 0) 0 (mantissa_len cs + exponent_len (drop (mantissa_len cs) cs)) (length cs) (omega arith) (omega (arith, mantissa, exponent, length-drop (mantissa_len cs) cs))

base_within : (o : Option ℕ) (cs : List ℕ) → digits_in o cs ≤ length cs
base_within None cs = omega arith
base_within (Some base) cs = prefix_len-le-length (λ d. is_digit d base) cs

based_within : (cs : List ℕ) → based_len cs ≤ length cs
unfolding based_len
based_within [] = omega arith
based_within (c ∷ []) = omega arith
based_within (c ∷ letter ∷ cs) =
    let digits = base_within (base_of letter) cs in
    either ((c == 48) && not (digits_in (base_of letter) cs == 0)) (digits_in (base_of letter) cs + 2) 0 (length (c ∷ letter ∷ cs)) (omega (arith, digits)) (omega arith)

plain_within : (cs : List ℕ) → plain_len cs ≤ length cs
unfolding plain_len
plain_within cs =
    either (not (goes_on (drop (decimal_len cs) cs))) (decimal_len cs) (cond (goes_on (drop (whole_len cs) cs)) 0 (whole_len cs)) (length cs) (decimal_within cs)
    (either (goes_on (drop (whole_len cs) cs)) 0 (whole_len cs) (length cs) (omega arith) (whole_within cs))

pub number_within : (cs : List ℕ) → number_len cs ≤ length cs
unfolding number_len
number_within cs =
    either (based_len cs == 0) (plain_len cs) (cond (goes_on (drop (based_len cs) cs)) 0 (based_len cs)) (length cs) (plain_within cs)
    (either (goes_on (drop (based_len cs) cs)) 0 (based_len cs) (length cs) (omega arith) (based_within cs))
