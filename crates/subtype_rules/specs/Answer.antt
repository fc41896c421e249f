-- Subtyping by a table, as a function.
use Rattle.std.specs.Prelude.{Bool, ◌∷◌}
use Rattle.type_values.specs.declared.types.FlowType.{FlowType}
use Rattle.type_values.specs.declared.types.FlowType as made
use Rattle.alias_table.specs.Table.{types_in, unfolded}
use Rattle.alias_table.specs.declared.table.AliasTable.{AliasTable}
use Rattle.subtyping.proofs.TableNames.{table_has}
use Rattle.subtyping.proofs.Decided.{decided}

-- Whether a is below b. Its body need not be read: the law `below_is_the_relation` says what it is.
unfoldable pub below : AliasTable → FlowType → FlowType → Bool
below table a b = (decided (unfolded table) (made.Any ∷ types_in table) (table_has table) a b).0
