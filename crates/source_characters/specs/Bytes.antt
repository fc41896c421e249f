-- Which bytes begin a character.
use Rattle.std.specs.Prelude.{ℕ, Bool, ◌||◌, not, nat_lt, List, count_by}

-- In UTF-8 each character has one byte that doesn't go on with the character of the byte before it: its first.
abbrev pub begins_char : ℕ → Bool
begins_char b = nat_lt b 128 || not (nat_lt b 192)

-- how many characters begin in the bytes
abbrev pub char_count : List ℕ → ℕ
char_count bytes = count_by begins_char bytes
