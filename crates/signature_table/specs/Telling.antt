-- The aliases of signatures.
use Rattle.std.specs.Prelude.{◌≡◌, List, map, Option}
use Rattle.std.specs.Option.{option_and_then}
use Rattle.std.specs.Coded.{Coded-set, coded_option}
use Rattle.type_values.specs.declared.types.FlowType.{FlowType}
use Rattle.type_values.specs.contracts.types.FlowType as flow_type
use Rattle.alias_table.specs.Aliases.{Row, Key, alias_type}
use Rattle.check_values.specs.Rows.{Bytes, Rows, row_at}
use Rattle.check_values.specs.declared.signatures.Sig.{Sig}

-- the aliases of a module
abbrev pub rows_of : Bytes → Rows FlowType → List Row
rows_of home aliases = map (λ row. (home, row.0, row.1)) aliases

-- the type of an alias, by the signature of its module
abbrev pub type_told : Rows Sig → Key → Option FlowType
type_told rows key = option_and_then (λ sig. row_at sig.aliases key.1) (row_at rows key.0)

-- these are the aliases of all signatures
abbrev pub AreAliases : Rows Sig → List Row → Type 0
AreAliases rows aliases = (key : Key) → alias_type aliases key ≡ type_told rows key

-- which is so in one way at most
pub aliases_once : (rows : Rows Sig) (aliases : List Row) → IsProp (AreAliases rows aliases)
aliases_once rows aliases = let types : IsSet (Option FlowType) = Coded-set (coded_option flow_type.the_row.coded) in hlevel types
