-- The exported names so far.
use Rattle.std.specs.Prelude.{◌≡◌, List}
use Rattle.std.specs.BTreeSet.{BTreeSet, contains}
use Rattle.std.specs.Cmp.Lexicographic.{slice_cmp}
use Rattle.std.specs.Ordering.{nat_cmp}
use Rattle.check_values.specs.Rows.{Bytes, is_among}

-- these names were exported before
abbrev pub IsBefore : List Bytes → BTreeSet Bytes → Type 0
IsBefore names before = (name : Bytes) → contains (slice_cmp nat_cmp) before name ≡ is_among names name
