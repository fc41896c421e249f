-- Numbers of names, kept in maps.
use Rattle.std.specs.Prelude.{ℕ, List, [], ◌∷◌, ◌++◌, length, slice_get, Option, Some, unwrap_or, if◌then◌else◌}
use Rattle.std.specs.Option.{option_and_then}
use Rattle.std.specs.Ordering.{nat_cmp}
use Rattle.std.specs.Cmp.Lexicographic.{slice_cmp}
use Rattle.std.specs.BTreeMap.{BTreeMap, get}
use Rattle.std.specs.Str.{bytes_eq}
use Rattle.check_values.specs.Rows.{Bytes, Rows}
use Rattle.name_numbers.specs.declared.numbering.Numbered.{Numbered}

abbrev pub Places : Type 0
Places = BTreeMap Bytes ℕ

abbrev pub Modules : Type 0
Modules = BTreeMap Bytes Places

-- the number of a name of one module
abbrev pub place : Places → Bytes → Option ℕ
place places name = get (slice_cmp nat_cmp) places name

-- the number of a name of a module, if it has one
abbrev pub number_at : Modules → Bytes → Bytes → Option ℕ
number_at modules path name = option_and_then (λ places. place places name) (get (slice_cmp nat_cmp) modules path)

-- what the numbers stand for, in order
abbrev pub nodes_of : {N : Type 0} → Numbered N → List N
nodes_of numbered = numbered.nodes.items

-- the number of a name; one that has none gets the number of all nodes
abbrev pub number_in : {N : Type 0} → Numbered N → Bytes → Bytes → ℕ
number_in numbered path name = unwrap_or (number_at numbered.modules path name) (length (nodes_of numbered))

-- what stands beside a name in the first of its rows; rest tells it where there is none
abbrev pub row_or : {X : Type 0} → Rows X → Bytes → Option X → Option X
row_or [] name rest = rest
row_or (row ∷ rows) name rest = if bytes_eq row.0 name then Some row.1 else row_or rows name rest

-- what a number stands for among nodes, and more behind them
abbrev pub node_at : {N : Type 0} → List N → List N → Option ℕ → Option N
node_at nodes more number = option_and_then (slice_get (nodes ++ more)) number
