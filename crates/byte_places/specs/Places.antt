-- The byte place of a character, by its line and its column.
use Rattle.std.specs.Prelude.{ℕ, ◌≡◌, ◌+◌, ◌<◌, true, List, length, get_or, if◌then◌else◌}
use Rattle.source_characters.specs.Bytes.{begins_char}
use Rattle.source_place.specs.Place.{Bytes, is_feed, line_at, column_at}

-- the character at this line and this column begins at this byte
pub record StandsAt (text : Bytes) (line column at : ℕ) : Type 0 where
  pub within : at < length text
  pub begins : begins_char (get_or text at 0) ≡ true
  pub in_line : line_at text at ≡ line
  pub in_column : column_at text at ≡ column

-- the line and the column behind a byte
abbrev pub line_behind : ℕ → ℕ → ℕ
line_behind line byte = if is_feed byte then line + 1 else line

abbrev pub column_behind : ℕ → ℕ → ℕ
column_behind column byte = if is_feed byte then 1 else if begins_char byte then column + 1 else column
