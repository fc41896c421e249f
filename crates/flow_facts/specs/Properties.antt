-- Properties of an object type.
use Rattle.std.specs.Prelude.{ℕ, List, [], ◌∷◌, Option, Some, None, if◌then◌else◌}
use Rattle.type_values.specs.declared.types.FlowType.{FlowType}
use Rattle.type_values.specs.declared.types.FlowProp.{FlowProp, out-FlowProp}
use Rattle.type_terms.specs.Optional.{eff}
use Rattle.flow_facts.specs.Cells.{is_text}

-- the first property with this key
abbrev pub prop_of : List ℕ → List FlowProp → Option FlowProp
prop_of key [] = None
prop_of key (p ∷ more) = if is_text (out-FlowProp p).key key then Some p else prop_of key more

-- what reading a property gives
abbrev pub read_type : FlowProp → FlowType
read_type p = eff (out-FlowProp p).optional (out-FlowProp p).ty
