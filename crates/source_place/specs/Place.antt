-- The line and the column of a byte place of a text.
use Rattle.std.specs.Prelude.{ℕ, ◌+◌, ◌==◌, Bool, List, take, count_by, ◌⊎◌, ◌≡◌, ◌≤◌, ◌<◌, ◌-◌, ◌^◌, length, IsUtf8}
use Rattle.std.specs.List.{after_last}
use Rattle.source_characters.specs.Bytes.{char_count}

abbrev pub Bytes : Type 0
Bytes = List ℕ

-- a line ends after an LF, and after nothing else
abbrev pub is_feed : ℕ → Bool
is_feed b = b == 10

-- the lines that end before the place, and the one that it stands in
abbrev pub line_at : Bytes → ℕ → ℕ
line_at text at = count_by is_feed (take at text) + 1

-- what stands before the place in its own line
abbrev pub line_front : Bytes → Bytes
line_front front = after_last is_feed front

-- the characters that begin before the place in its line, and the one that stands there
abbrev pub column_at : Bytes → ℕ → ℕ
column_at text at = char_count (line_front (take at text)) + 1

-- a byte of a UTF-8 text, or its end, where line and column fit their types; or the start of any text
abbrev pub IsPlace : Bytes → ℕ → Type 0
IsPlace text at = (at ≡ 0) ⊎ (IsUtf8 text × (at ≤ length text) × (at < 2 ^ 32 - 1))
