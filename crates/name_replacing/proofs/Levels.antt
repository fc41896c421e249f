-- A type with its names replaced, for each form that has parts.
use Rattle.std.proofs.Common.{◌≡◌, ℕ, Bool, List, map, sym, ap, ◌∙◌}
use Rattle.type_values.specs.declared.types.FlowType.{FlowType}
use Rattle.type_values.specs.declared.types.FlowType as made
use Rattle.type_values.specs.declared.types.FlowType.TheOpen as level
use Rattle.type_values.specs.declared.types.FlowType.TheViews.{rolls-Union, rolls-Object, rolls-Tuple, rolls-Array, rolls-ReadArray, rolls-Function, rolls-Ref}
use Rattle.type_values.specs.declared.types.FlowType.TheFolds.{fold-roll-FlowType, fold_out-FlowProp, fold_out-Param}
use Rattle.type_values.specs.declared.types.FlowProp.{FlowProp}
use Rattle.type_values.specs.declared.types.Param.{Param}
use Rattle.type_names.specs.Names.{level_replaced, prop_replaced, param_replaced}
use Rattle.name_replacing.specs.Replacing.{by_word, type_by, prop_by, param_by}

module _ (means : List ℕ → FlowType) where
  pub of_union : (all : List FlowType) → type_by means (made.Union all) ≡ made.Union (map (type_by means) all)
  of_union all = ap (type_by means) (sym (rolls-Union all)) ∙ fold-roll-FlowType FlowType FlowProp Param (level_replaced (by_word means)) prop_replaced param_replaced (level.Union all)

  pub of_object : (exact : Bool) (props : List FlowProp) → type_by means (made.Object exact props) ≡ made.Object exact (map (prop_by means) props)
  of_object exact props = ap (type_by means) (sym (rolls-Object exact props)) ∙ fold-roll-FlowType FlowType FlowProp Param (level_replaced (by_word means)) prop_replaced param_replaced (level.Object exact props)

  pub of_tuple : (all : List FlowType) → type_by means (made.Tuple all) ≡ made.Tuple (map (type_by means) all)
  of_tuple all = ap (type_by means) (sym (rolls-Tuple all)) ∙ fold-roll-FlowType FlowType FlowProp Param (level_replaced (by_word means)) prop_replaced param_replaced (level.Tuple all)

  pub of_array : (t : FlowType) → type_by means (made.Array t) ≡ made.Array (type_by means t)
  of_array t = ap (type_by means) (sym (rolls-Array t)) ∙ fold-roll-FlowType FlowType FlowProp Param (level_replaced (by_word means)) prop_replaced param_replaced (level.Array t)

  pub of_read_array : (t : FlowType) → type_by means (made.ReadArray t) ≡ made.ReadArray (type_by means t)
  of_read_array t = ap (type_by means) (sym (rolls-ReadArray t)) ∙ fold-roll-FlowType FlowType FlowProp Param (level_replaced (by_word means)) prop_replaced param_replaced (level.ReadArray t)

  pub of_function : (params : List Param) (t : FlowType) → type_by means (made.Function params t) ≡ made.Function (map (param_by means) params) (type_by means t)
  of_function params t = ap (type_by means) (sym (rolls-Function params t)) ∙ fold-roll-FlowType FlowType FlowProp Param (level_replaced (by_word means)) prop_replaced param_replaced (level.Function params t)

  pub of_name : (home word : List ℕ) → type_by means (made.Ref home word) ≡ means word
  of_name home word = ap (type_by means) (sym (rolls-Ref home word)) ∙ fold-roll-FlowType FlowType FlowProp Param (level_replaced (by_word means)) prop_replaced param_replaced (level.Ref home word)

  pub of_prop : (prop : FlowProp) → prop_by means prop ≡ record { key = prop.key; variance = prop.variance; optional = prop.optional; ty = type_by means prop.ty }
  of_prop prop = fold_out-FlowProp FlowType FlowProp Param (level_replaced (by_word means)) prop_replaced param_replaced prop

  pub of_param : (param : Param) → param_by means param ≡ record { optional = param.optional; ty = type_by means param.ty }
  of_param param = fold_out-Param FlowType FlowProp Param (level_replaced (by_word means)) prop_replaced param_replaced param
