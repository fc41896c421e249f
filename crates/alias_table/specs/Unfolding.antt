-- What the rows of aliases unfold a name to.
use Rattle.std.specs.Prelude.{◌≡◌, List, Some, None}
use Rattle.type_values.specs.declared.types.FlowType.{FlowType}
use Rattle.type_values.specs.declared.types.FlowType as made
use Rattle.alias_table.specs.Aliases.{Row, Key, alias_type, IsCyclic}

-- A name on a cycle unfolds to `any`, and so does a name of no row. Every other name unfolds to the type of its first row.
pub data UnfoldsTo (rows : List Row) (key : Key) (t : FlowType) : Type 0 where
  cyclic : IsCyclic (alias_type rows) key → t ≡ made.Any → UnfoldsTo rows key t
  missing : alias_type rows key ≡ None → t ≡ made.Any → UnfoldsTo rows key t
  plain : ¬ (IsCyclic (alias_type rows) key) → alias_type rows key ≡ Some t → UnfoldsTo rows key t

-- a function gives each name what the rows unfold it to
abbrev pub Unfolds : List Row → (Key → FlowType) → Type 0
Unfolds rows named = (key : Key) → UnfoldsTo rows key (named key)
