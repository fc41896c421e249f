-- The spelling of numbers.
use Rattle.std.specs.Prelude.{◌≡◌, ◌≢◌, ℕ, Bool, false, ◌||◌, ◌==◌, ◌⊎◌, List, [], ◌∷◌, ◌++◌, Option, Some, None, IsTrue, codes, if◌then◌else◌}
use Rattle.std.specs.List.{list_all}
use Rattle.std.specs.Char.{is_ascii_digit, is_digit}
use Rattle.js_token.specs.Words.{is_whole}
use Rattle.lex_pieces.specs.Characters.{goes_on}

-- one or more digits
abbrev pub AreDigits : List ℕ → Type 0
AreDigits ds = IsTrue (list_all is_ascii_digit ds) × (ds ≢ [])

-- `e` or `E`
abbrev pub is_exponent_mark : ℕ → Bool
is_exponent_mark c = (c == 101) || (c == 69)

-- `e` or `E`, a sign or none, and digits
abbrev pub IsExponent : List ℕ → Type 0
IsExponent e = (mark : ℕ) × (sign : List ℕ) × (digits : List ℕ) × IsTrue (is_exponent_mark mark)
    × ((sign ≡ []) ⊎ ((sign ≡ codes "+") ⊎ (sign ≡ codes "-"))) × AreDigits digits × (e ≡ mark ∷ sign ++ digits)

-- a whole number, one with a dot behind it and digits or none behind that, or a dot and digits
abbrev pub IsMantissa : List ℕ → Type 0
IsMantissa m = IsTrue (is_whole m)
    ⊎ (((whole : List ℕ) × (digits : List ℕ) × IsTrue (is_whole whole) × IsTrue (list_all is_ascii_digit digits) × (m ≡ whole ++ codes "." ++ digits))
    ⊎ ((digits : List ℕ) × AreDigits digits × (m ≡ codes "." ++ digits)))

-- a mantissa, with an exponent or none
abbrev pub IsDecimal : List ℕ → Type 0
IsDecimal n = IsMantissa n ⊎ ((m : List ℕ) × (e : List ℕ) × IsMantissa m × IsExponent e × (n ≡ m ++ e))

-- the base that a letter behind `0` stands for: `x` 16, `o` 8, `b` 2, in either case
abbrev pub base_of : ℕ → Option ℕ
base_of c = if (c == 120) || (c == 88) then Some 16 else if (c == 111) || (c == 79) then Some 8 else if (c == 98) || (c == 66) then Some 2 else None

-- `0`, the letter of a base, and one or more digits of it
abbrev pub IsInBase : List ℕ → Type 0
IsInBase n = (letter : ℕ) × (base : ℕ) × (digits : List ℕ) × (base_of letter ≡ Some base)
    × IsTrue (list_all (λ d. is_digit d base) digits) × (digits ≢ []) × (n ≡ 48 ∷ letter ∷ digits)

-- a number, which neither a digit nor a character that may go on a word follows
abbrev pub IsNumber : List ℕ → List ℕ → Type 0
IsNumber text rest = (IsDecimal text ⊎ IsInBase text) × (goes_on rest ≡ false)
