-- The names that are asked of each module, as the code gathers them.
use Rattle.std.specs.Prelude.{◌≡◌, ◌<◌, ℕ, List, [], ◌++◌, length, slice_get, Option, IfSome, unwrap_or}
use Rattle.std.specs.Option.{option_map, option_and_then}
use Rattle.std.specs.Ordering.{nat_cmp}
use Rattle.std.specs.Cmp.Lexicographic.{slice_cmp}
use Rattle.std.specs.BTreeMap.{BTreeMap, get}
use Rattle.check_values.specs.Rows.{Bytes, Rows, row_at}
use Rattle.check_values.specs.declared.signatures.Export.{Export}
use Rattle.type_names.specs.Names.{Name}
use Rattle.asked_exports.specs.Asked.{asked_of}

abbrev pub Asked : Type 0
Asked = BTreeMap Bytes (List Bytes)

abbrev pub names_at : Asked → Bytes → List Bytes
names_at asked path = unwrap_or (get (slice_cmp nat_cmp) asked path) []

-- these names are asked for, behind those that were
abbrev pub Gathers : Asked → Asked → List Name → Type 0
Gathers old new names = (path : Bytes) → names_at new path ≡ names_at old path ++ asked_of names path

-- the row of a name stands at a place, or there is none
pub record IsRowOf (exports : Rows Export) (name : Bytes) (place : Option ℕ) : Type 0 where
  pub row : row_at exports name ≡ option_and_then (λ at. option_map (λ row. row.1) (slice_get exports at)) place
  pub within : IfSome place (λ at. at < length exports)
