-- How far a number reaches from the front of a text. A length of 0 says that there is none.
use Rattle.std.specs.Prelude.{ℕ, ◌+◌, ◌&&◌, ◌||◌, ◌==◌, not, List, [], ◌∷◌, Option, Some, None, drop, if◌then◌else◌, nat_lt}
use Rattle.std.specs.List.{prefix_len}
use Rattle.std.specs.Char.{is_ascii_digit, is_digit}
use Rattle.lex_pieces.specs.Characters.{goes_on}
use Rattle.lex_pieces.specs.Numbers.{is_exponent_mark, base_of}

-- how many digits stand at the front
unfoldable pub digits_len : List ℕ → ℕ
digits_len cs = prefix_len is_ascii_digit cs

-- a whole number
unfoldable pub whole_len : List ℕ → ℕ
whole_len [] = 0
whole_len (c ∷ cs) = if c == 48 then 1 else digits_len (c ∷ cs)

-- a dot and the digits behind it
abbrev pub fraction_len : List ℕ → ℕ
fraction_len [] = 0
fraction_len (c ∷ cs) = if c == 46 then digits_len cs + 1 else 0

-- a sign, or none
abbrev pub sign_len : List ℕ → ℕ
sign_len [] = 0
sign_len (c ∷ cs) = if (c == 43) || (c == 45) then 1 else 0

-- behind `e` or `E`: a sign or none, and digits
abbrev pub signed_len : List ℕ → ℕ
signed_len cs = let digits = digits_len (drop (sign_len cs) cs) in if digits == 0 then 0 else sign_len cs + digits

-- an exponent, or none
abbrev pub exponent_len : List ℕ → ℕ
exponent_len [] = 0
exponent_len (c ∷ cs) = if is_exponent_mark c && not (signed_len cs == 0) then signed_len cs + 1 else 0

-- a whole number, a fraction, or both
unfoldable pub mantissa_len : List ℕ → ℕ
mantissa_len cs = let fraction = fraction_len (drop (whole_len cs) cs) in
    if (whole_len cs == 0) && nat_lt fraction 2 then 0 else whole_len cs + fraction

-- a mantissa, with an exponent or none
unfoldable pub decimal_len : List ℕ → ℕ
decimal_len cs = if mantissa_len cs == 0 then 0 else mantissa_len cs + exponent_len (drop (mantissa_len cs) cs)

-- digits of a base, if there is one
abbrev pub digits_in : Option ℕ → List ℕ → ℕ
digits_in None cs = 0
digits_in (Some base) cs = prefix_len (λ d. is_digit d base) cs

-- `0`, the letter of a base, and digits of it
unfoldable pub based_len : List ℕ → ℕ
based_len [] = 0
based_len (c ∷ []) = 0
based_len (c ∷ letter ∷ cs) = if (c == 48) && not (digits_in (base_of letter) cs == 0) then digits_in (base_of letter) cs + 2 else 0

-- where what follows rules the longest decimal out, its whole part may be a number
unfoldable pub plain_len : List ℕ → ℕ
plain_len cs = if not (goes_on (drop (decimal_len cs) cs)) then decimal_len cs
    else if goes_on (drop (whole_len cs) cs) then 0 else whole_len cs

-- a number, where what follows does not rule it out
unfoldable pub number_len : List ℕ → ℕ
number_len cs = if based_len cs == 0 then plain_len cs
    else if goes_on (drop (based_len cs) cs) then 0 else based_len cs
