-- A table of pairs, each with its ways by the numbers of pairs.
use Rattle.std.specs.Prelude.{◌≡◌, ◌<◌, ◌⊎◌, ℕ, List, [], ◌∷◌, ◌++◌, Contains, length, map, slice_get, Some}
use Rattle.type_values.specs.declared.types.FlowType.{FlowType}
use Rattle.alias_table.specs.Aliases.{Key}
use Rattle.subtyping.specs.Rows.{Pair, ways}
use Rattle.subtyping.specs.Closed.{IsBelow}
use Rattle.subtyping.specs.Numbered.{ways_of}

-- pairs keep their numbers
abbrev pub Grows : List Pair → List Pair → Type 0
Grows old new = (more : List Pair) × (new ≡ old ++ more)

-- these numbers stand for these pairs
abbrev pub StandFor : List Pair → List ℕ → List Pair → Type 0
StandFor pairs ks ps = map (slice_get pairs) ks ≡ map Some ps

-- no closed set has the pair
abbrev pub IsLost : (Key → FlowType) → Pair → Type 0
IsLost named p = IsBelow named p.0 p.1 → ⊥

-- a pair of this way is lost
abbrev pub IsHopeless : (Key → FlowType) → List Pair → Type 0
IsHopeless named way = (p : Pair) × Contains way p × IsLost named p

-- some of these ways, and none that isn't hopeless is left out
abbrev pub KeepsWays : (Key → FlowType) → List (List Pair) → List (List Pair) → Type 0
KeepsWays named some all = ((way : List Pair) → Contains some way → Contains all way) × ((way : List Pair) → Contains all way → Contains some way ⊎ IsHopeless named way)

-- a way stands in a row of numbers
abbrev pub HasWay : List Pair → List (List ℕ) → List Pair → Type 0
HasWay pairs row way = (ks : List ℕ) × Contains row ks × StandFor pairs ks way

-- Each way of the row is one of these, and each of these is in the row or hopeless.
abbrev pub IsRow : (Key → FlowType) → List Pair → List (List ℕ) → List (List Pair) → Type 0
IsRow named pairs row all = ((ks : List ℕ) → Contains row ks → (way : List Pair) × Contains all way × StandFor pairs ks way) × ((way : List Pair) → Contains all way → HasWay pairs row way ⊎ IsHopeless named way)

-- one way is put into the row, or is hopeless
abbrev pub IsAdded : List Pair → List (List ℕ) → List (List ℕ) → List Pair → Type 0
IsAdded pairs old new way = ((new ≡ old) × ((named : Key → FlowType) → IsHopeless named way)) ⊎ ((ks : List ℕ) × (new ≡ old ++ ks ∷ []) × StandFor pairs ks way)

-- each row has the ways of its pair
abbrev pub AreRows : (Key → FlowType) → List Pair → List (List (List ℕ)) → Type 0
AreRows named pairs rows = (k : ℕ) (p : Pair) → k < length rows → slice_get pairs k ≡ Some p → IsRow named pairs (ways_of rows k) (ways named p)
