-- Which characters are blanks, end lines and begin strings.
use Rattle.std.specs.Prelude.{ℕ, Bool, false, ◌||◌, ◌==◌, List, [], ◌∷◌}
use Rattle.std.specs.Char.{is_ascii_digit}
use Rattle.std.specs.Int.{is_in_range}
use Rattle.source_characters.specs.Words.{continues_word}

-- tab, LF, VT, FF, CR, space, no-break space, line and paragraph separator, byte order mark
abbrev pub is_blank_char : ℕ → Bool
is_blank_char c = is_in_range 9 13 c || (c == 0x20) || (c == 0xA0) || (c == 0x2028) || (c == 0x2029) || (c == 0xFEFF)

-- the text begins with a digit, or with a character that may go on a word
abbrev pub goes_on : List ℕ → Bool
goes_on [] = false
goes_on (c ∷ cs) = is_ascii_digit c || continues_word c

-- LF
abbrev pub LF : ℕ
LF = 10

-- LF, CR, line and paragraph separator
abbrev pub ends_line : ℕ → Bool
ends_line c = (c == 10) || (c == 13) || (c == 0x2028) || (c == 0x2029)

-- `'` or `"`
abbrev pub is_quote : ℕ → Bool
is_quote c = (c == 39) || (c == 34)
