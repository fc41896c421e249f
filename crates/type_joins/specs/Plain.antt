-- Types that are their own one part.
use Rattle.std.specs.Prelude.{Bool, true, false, not, List, filter}
use Rattle.type_values.specs.Order.{is_same}
use Rattle.type_values.specs.declared.types.FlowType.{FlowType, out-FlowType}
use Rattle.type_values.specs.declared.types.FlowType.TheOpen.{FlowType-F, Any, Empty, Union}

abbrev pub level_is_plain : {A B C : Type 0} → FlowType-F A B C → Bool
level_is_plain Any = false
level_is_plain Empty = false
level_is_plain (Union all) = false
level_is_plain level = true

-- neither `any` nor `empty` nor a union
abbrev pub is_plain : FlowType → Bool
is_plain t = level_is_plain (out-FlowType t)

-- those that are not the same as one
abbrev pub others : FlowType → List FlowType → List FlowType
others one all = filter (λ t. not (is_same t one)) all
