-- The members of a type as a function.
use Rattle.std.specs.Prelude.{List, [], ◌∷◌}
use Rattle.type_values.specs.declared.types.FlowType.{FlowType}
use Rattle.alias_table.specs.declared.table.AliasTable.{AliasTable}
use Rattle.alias_table.proofs.Ending.{table_ends}

-- The members of a type in a table, in order. The laws `has_members` and `has_one_list_of_members` tell all of it: it is the one list that is `AreMembers`.
unfoldable pub members_in : AliasTable → FlowType → List FlowType
members_in table t = (table_ends table (t ∷ [])).0
