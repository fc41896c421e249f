-- A type with each of its names replaced by what its second part, the name itself, stands for.
use Rattle.std.specs.Prelude.{ℕ, List}
use Rattle.type_names.specs.Names.{Name, replaced, level_replaced, prop_replaced, param_replaced}
use Rattle.type_values.specs.declared.types.FlowType.{FlowType}
use Rattle.type_values.specs.declared.types.FlowProp.{FlowProp}
use Rattle.type_values.specs.declared.types.Param.{Param}
use Rattle.type_values.specs.declared.types.FlowType.TheFolds.{fold-FlowProp, fold-Param}

-- what a name stands for, whatever module stands beside it
abbrev pub by_word : (List ℕ → FlowType) → Name → FlowType
by_word means name = means name.1

abbrev pub type_by : (List ℕ → FlowType) → FlowType → FlowType
type_by means = replaced (by_word means)

abbrev pub prop_by : (List ℕ → FlowType) → FlowProp → FlowProp
prop_by means = fold-FlowProp FlowType FlowProp Param (level_replaced (by_word means)) prop_replaced param_replaced

abbrev pub param_by : (List ℕ → FlowType) → Param → Param
param_by means = fold-Param FlowType FlowProp Param (level_replaced (by_word means)) prop_replaced param_replaced
