-- Rows of which others have none.
use Rattle.std.specs.Prelude.{◌≡◌, List, Some, None, if◌then◌else◌}
use Rattle.std.specs.Option.{is_some}
use Rattle.type_values.specs.declared.types.FlowType.{FlowType}
use Rattle.alias_table.specs.Aliases.{Row, Key, alias_type}

-- of two lists of rows no alias is in both
abbrev pub AreApart : List Row → List Row → Type 0
AreApart own others = (key : Key) (t : FlowType) → alias_type own key ≡ Some t → alias_type others key ≡ None

-- these are those own rows that others lack, and of each other one the others have the same type
pub record Splits (others own apart : List Row) : Type 0 where
  pub lacking : (key : Key) → alias_type apart key ≡ (if is_some (alias_type others key) then None else alias_type own key)
  pub same : (key : Key) (t u : FlowType) → alias_type own key ≡ Some t → alias_type others key ≡ Some u → t ≡ u
