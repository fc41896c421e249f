-- What is left out of the ways, and why.
use Rattle.std.specs.Prelude.{◌≡◌, ℕ, List, [], map, Contains, Option, Some, None, slice_get}
use Rattle.type_values.specs.declared.types.FlowType.{FlowType}
use Rattle.type_values.specs.declared.types.FlowProp.{FlowProp}
use Rattle.alias_table.specs.Aliases.{Key}
use Rattle.subtyping.specs.Rows.{Pair, ways}
use Rattle.subtyping.specs.Collected.{IsLost}

-- a pair among these that no row justifies
abbrev pub HasDead : (Key → FlowType) → List Pair → Type 0
HasDead named some = (q : Pair) × Contains some q × (ways named q ≡ [])

-- a member of these is below that in no closed set
abbrev pub HasLost : (Key → FlowType) → List FlowType → FlowType → Type 0
HasLost named all b = (x : FlowType) × Contains all x × IsLost named (x, b)

-- the keys of properties, in order
abbrev pub keys_of : List FlowProp → List (List ℕ)
keys_of ps = map (λ p. p.key) ps

-- the property at a place that was found
abbrev pub prop_of_place : List FlowProp → Option ℕ → Option FlowProp
prop_of_place ps None = None
prop_of_place ps (Some k) = slice_get ps k
