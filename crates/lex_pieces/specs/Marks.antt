-- The longest mark at the front of a text.
use Rattle.std.specs.Prelude.{ℕ, ◌&&◌, ◌==◌, List, [], ◌∷◌, Option, Some, None, if◌then◌else◌}
use Rattle.std.specs.Option.{option_or}
use Rattle.js_token.specs.declared.punct.Punct.{Punct}
use Rattle.js_token.specs.declared.punct.Punct.TheVariants.{OpenBrace, CloseBrace, OpenParen, CloseParen, OpenBracket, CloseBracket, Dot, Ellipsis, Comma, Semicolon, Colon, Question, QuestionQuestion, Arrow, Assign, StrictEqual, StrictNotEqual, LooseEqual, LooseNotEqual, LessThan, GreaterThan, LessOrEqual, GreaterOrEqual, Plus, PlusPlus, Minus, MinusMinus, Star, Slash, Percent, Bang, AndAnd, OrOr, Bar}

-- the mark that is this one character
abbrev pub mark_of_one : ℕ → Option Punct
mark_of_one a =
    if a == 123 then Some OpenBrace else
    if a == 125 then Some CloseBrace else
    if a == 40 then Some OpenParen else
    if a == 41 then Some CloseParen else
    if a == 91 then Some OpenBracket else
    if a == 93 then Some CloseBracket else
    if a == 46 then Some Dot else
    if a == 44 then Some Comma else
    if a == 59 then Some Semicolon else
    if a == 58 then Some Colon else
    if a == 63 then Some Question else
    if a == 61 then Some Assign else
    if a == 60 then Some LessThan else
    if a == 62 then Some GreaterThan else
    if a == 43 then Some Plus else
    if a == 45 then Some Minus else
    if a == 42 then Some Star else
    if a == 47 then Some Slash else
    if a == 37 then Some Percent else
    if a == 33 then Some Bang else
    if a == 124 then Some Bar else None

-- the mark that is these two
abbrev pub mark_of_two : ℕ → ℕ → Option Punct
mark_of_two a b =
    if (a == 63) && (b == 63) then Some QuestionQuestion else
    if (a == 61) && (b == 62) then Some Arrow else
    if (a == 61) && (b == 61) then Some LooseEqual else
    if (a == 33) && (b == 61) then Some LooseNotEqual else
    if (a == 60) && (b == 61) then Some LessOrEqual else
    if (a == 62) && (b == 61) then Some GreaterOrEqual else
    if (a == 43) && (b == 43) then Some PlusPlus else
    if (a == 45) && (b == 45) then Some MinusMinus else
    if (a == 38) && (b == 38) then Some AndAnd else
    if (a == 124) && (b == 124) then Some OrOr else None

-- the mark that is these three
abbrev pub mark_of_three : ℕ → ℕ → ℕ → Option Punct
mark_of_three a b c =
    if (a == 46) && (b == 46) && (c == 46) then Some Ellipsis else
    if (a == 61) && (b == 61) && (c == 61) then Some StrictEqual else
    if (a == 33) && (b == 61) && (c == 61) then Some StrictNotEqual else None

-- a value and how many characters are written for it
abbrev pub with_len : {A : Type 0} → ℕ → Option A → Option (A × ℕ)
with_len len None = None
with_len len (Some a) = Some (a, len)

-- the longest mark that begins with these characters, and its length
unfoldable pub longest_of_two : ℕ → ℕ → Option (Punct × ℕ)
longest_of_two a b = option_or (with_len 2 (mark_of_two a b)) (with_len 1 (mark_of_one a))

unfoldable pub longest_of_three : ℕ → ℕ → ℕ → Option (Punct × ℕ)
longest_of_three a b c = option_or (with_len 3 (mark_of_three a b c)) (longest_of_two a b)

-- the longest mark at the front of a text
abbrev pub mark_at : List ℕ → Option (Punct × ℕ)
mark_at [] = None
mark_at (a ∷ []) = with_len 1 (mark_of_one a)
mark_at (a ∷ b ∷ []) = longest_of_two a b
mark_at (a ∷ b ∷ c ∷ cs) = longest_of_three a b c
