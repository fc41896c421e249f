-- What rows unfold names to, and the members of types by them, as functions.
use Rattle.std.specs.Prelude.{List, [], ◌∷◌}
use Rattle.type_values.specs.declared.types.FlowType.{FlowType}
use Rattle.alias_table.specs.Aliases.{Row, Key}
use Rattle.alias_table.proofs.OneType.{some_type}
use Rattle.alias_table.proofs.Ending.{rows_end}

-- What rows unfold a name to. The law `rows_unfold` tells all of it.
unfoldable pub unfolded_by : List Row → Key → FlowType
unfolded_by rows key = (some_type rows key).0

-- The members of a type by rows, in order. The law `rows_unfold` tells all of it.
unfoldable pub members_by : List Row → FlowType → List FlowType
members_by rows t = (rows_end rows (λ key. (some_type rows key).0) (λ key. (some_type rows key).1) (t ∷ [])).0
