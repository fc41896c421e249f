-- The places of names in a list of rows.
use Rattle.std.specs.Prelude.{ℕ, suc, ◌≡◌, ◌==◌, Bool, false, List, [], ◌∷◌, slice_get, Option, Some, None, if◌then◌else◌}
use Rattle.std.specs.Option.{option_map}
use Rattle.std.specs.Ordering.{nat_cmp}
use Rattle.std.specs.Cmp.Lexicographic.{slice_cmp}
use Rattle.std.specs.BTreeMap.{BTreeMap, get}
use Rattle.std.specs.Str.{bytes_eq}
use Rattle.check_values.specs.Rows.{Bytes, Rows}

-- the place of the first row of a name
abbrev pub place_of : {X : Type 0} → Rows X → Bytes → Option ℕ
place_of [] name = None
place_of (row ∷ rows) name = if bytes_eq row.0 name then Some 0 else option_map suc (place_of rows name)

-- each name has the place of its first row, and no other name has one
abbrev pub ArePlaces : {X : Type 0} → Rows X → BTreeMap Bytes ℕ → Type 0
ArePlaces rows places = (name : Bytes) → get (slice_cmp nat_cmp) places name ≡ place_of rows name

-- what stands beside the name at a place
abbrev pub value_at : {X : Type 0} → Rows X → ℕ → Option X
value_at rows place = option_map (λ row. row.1) (slice_get rows place)

-- this is the place
abbrev pub is_place : Option ℕ → ℕ → Bool
is_place None at = false
is_place (Some place) at = place == at
