-- Closed sets of pairs, and subtyping by them.
use Rattle.std.specs.Prelude.{List, Contains}
use Rattle.type_values.specs.declared.types.FlowType.{FlowType}
use Rattle.alias_table.specs.Aliases.{Key}
use Rattle.subtyping.specs.Rows.{Pair, ways}

abbrev pub HasAll : List Pair → List Pair → Type 0
HasAll set needs = (p : Pair) → Contains needs p → Contains set p

-- some row justifies the pair by pairs of the set
abbrev pub IsJustified : (Key → FlowType) → List Pair → Pair → Type 0
IsJustified named set p = (way : List Pair) × Contains (ways named p) way × HasAll set way

abbrev pub IsClosed : (Key → FlowType) → List Pair → Type 0
IsClosed named set = (p : Pair) → Contains set p → IsJustified named set p

-- A is below B: some closed set has the pair
abbrev pub IsBelow : (Key → FlowType) → FlowType → FlowType → Type 0
IsBelow named a b = (set : List Pair) × IsClosed named set × Contains set (a, b)

-- each pair of these is one of a type below another
abbrev pub AreBelow : (Key → FlowType) → List Pair → Type 0
AreBelow named way = (q : Pair) → Contains way q → IsBelow named q.0 q.1
