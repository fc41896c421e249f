-- What looking for a path among the modules of a version gives.
use Rattle.std.specs.Prelude.{◌≡◌, ℕ, ◌<◌, true, false, List, length, get_or, Option, Some, None, if◌then◌else◌}
use Rattle.check_values.specs.Rows.{Bytes, is_among}
use Rattle.check_values.specs.Roots.{paths_of_rows}
use Rattle.check_values.specs.declared.root.RootRow.{RootRow}

-- the row of this path stands at a place, or none has it
abbrev pub IsPlaceOf : List RootRow → Bytes → Option ℕ → Type 0
IsPlaceOf rows bytes None = is_among (paths_of_rows rows) bytes ≡ false
IsPlaceOf rows bytes (Some at) = (at < length rows) × ((d : RootRow) → (get_or rows at d).path ≡ bytes) × (is_among (paths_of_rows rows) bytes ≡ true)

-- a path, where it is one of these
abbrev pub one_of : List Bytes → Bytes → Option Bytes
one_of paths bytes = if is_among paths bytes then Some bytes else None
