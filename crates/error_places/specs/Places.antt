-- Places that are known with their lines and columns.
use Rattle.std.specs.Prelude.{◌≡◌, ◌≤◌, length}
use Rattle.source_place.specs.Place.{Bytes, line_at, column_at}
use Rattle.error_places.specs.declared.places.Place.{Place}

-- this is a place of the text, with its line and its column
pub record IsAt (text : Bytes) (place : Place) : Type 0 where
  pub within : place.at ≤ length text
  pub in_line : place.line ≡ line_at text place.at
  pub in_column : place.column ≡ column_at text place.at
