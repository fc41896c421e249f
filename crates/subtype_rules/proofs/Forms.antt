-- The outermost form of a type that is made so.
use Rattle.std.proofs.Common.{◌≡◌, Bool, List, sym, ap, ◌∙◌}
use Rattle.type_values.specs.declared.types.FlowType.{FlowType, out-FlowType, out-roll-FlowType}
use Rattle.type_values.specs.declared.types.FlowType as made
use Rattle.type_values.specs.declared.types.FlowType.TheOpen.{Union, Object}
use Rattle.type_values.specs.declared.types.FlowType.TheViews.{rolls-Union, rolls-Object}
use Rattle.type_values.specs.declared.types.FlowProp.{FlowProp}

pub union_form : (t : FlowType) (all : List FlowType) → t ≡ made.Union all → out-FlowType t ≡ Union all
union_form t all is = ap out-FlowType (is ∙ sym (rolls-Union all)) ∙ out-roll-FlowType (Union all)

pub object_form : (t : FlowType) (closed : Bool) (ps : List FlowProp) → t ≡ made.Object closed ps → out-FlowType t ≡ Object closed ps
object_form t closed ps is = ap out-FlowType (is ∙ sym (rolls-Object closed ps)) ∙ out-roll-FlowType (Object closed ps)
