-- The modules of the names in a type, by its parts.
use Rattle.std.proofs.Common.{Result, Ok, Err, OnOk, ◌≡◌, Bool, List, [], ◌∷◌, ◌++◌, map, refl, sym, ap, ◌∙◌}
use Rattle.std.specs.List.{flat_map}
use Rattle.std.proofs.lemmas.List.{map-append}
use Rattle.check_values.specs.Rows.{Bytes}
use Rattle.type_values.specs.declared.types.FlowType.{FlowType}
use Rattle.type_values.specs.declared.types.FlowType as made
use Rattle.type_values.specs.declared.types.FlowType.TheOpen as open_type
use Rattle.type_values.specs.declared.types.FlowType.TheViews.{rolls-Union, rolls-Object, rolls-Tuple, rolls-Function, rolls-Ref}
use Rattle.type_values.specs.declared.types.FlowType.TheFolds.{fold-FlowProp, fold-Param, fold-roll-FlowType, fold_out-FlowProp, fold_out-Param}
use Rattle.type_values.specs.declared.types.FlowProp.{FlowProp, out-FlowProp}
use Rattle.type_values.specs.declared.types.Param.{Param, out-Param}
use Rattle.type_names.specs.Names.{Name, all_of, names_in, level_names}
use Rattle.merged_signatures.specs.Reach.{paths_in}

abbrev first : List Name → List Bytes
first names = map (λ n. n.0) names

-- the modules of each part, one after another
parts : {X : Type 0} (h f : X → List Name) → ((x : X) → h x ≡ f x) → (xs : List X) → first (all_of (map h xs)) ≡ flat_map (λ x. first (f x)) xs
parts h f same [] = refl
parts h f same (x ∷ xs) =
    map-append (λ n. n.0) (h x) (all_of (map h xs)) ∙ ap (λ (l : List Name). first l ++ first (all_of (map h xs))) (same x) ∙ ap (λ (l : List Bytes). first (f x) ++ l) (parts h f same xs)

abbrev prop_names : FlowProp → List Name
prop_names = fold-FlowProp (List Name) (List Name) (List Name) level_names (λ prop. prop.ty) (λ param. param.ty)

abbrev param_names : Param → List Name
param_names = fold-Param (List Name) (List Name) (List Name) level_names (λ prop. prop.ty) (λ param. param.ty)

prop_is : (p : FlowProp) → prop_names p ≡ names_in (out-FlowProp p).ty
prop_is p = fold_out-FlowProp (List Name) (List Name) (List Name) level_names (λ prop. prop.ty) (λ param. param.ty) p

param_is : (p : Param) → param_names p ≡ names_in (out-Param p).ty
param_is p = fold_out-Param (List Name) (List Name) (List Name) level_names (λ prop. prop.ty) (λ param. param.ty) p

pub union_paths : (all : List FlowType) → paths_in (made.Union all) ≡ flat_map paths_in all
union_paths all =
    ap first (ap names_in (sym (rolls-Union all)) ∙ fold-roll-FlowType (List Name) (List Name) (List Name) level_names (λ prop. prop.ty) (λ param. param.ty) (open_type.Union all)) ∙ parts names_in names_in (λ t. refl) all

pub tuple_paths : (all : List FlowType) → paths_in (made.Tuple all) ≡ flat_map paths_in all
tuple_paths all =
    ap first (ap names_in (sym (rolls-Tuple all)) ∙ fold-roll-FlowType (List Name) (List Name) (List Name) level_names (λ prop. prop.ty) (λ param. param.ty) (open_type.Tuple all)) ∙ parts names_in names_in (λ t. refl) all

pub object_paths : (exact : Bool) (props : List FlowProp) → paths_in (made.Object exact props) ≡ flat_map (λ p. paths_in (out-FlowProp p).ty) props
object_paths exact props =
    ap first (ap names_in (sym (rolls-Object exact props)) ∙ fold-roll-FlowType (List Name) (List Name) (List Name) level_names (λ prop. prop.ty) (λ param. param.ty) (open_type.Object exact props))
    ∙ parts prop_names (λ p. names_in (out-FlowProp p).ty) prop_is props

pub function_paths : (params : List Param) (result : FlowType) → paths_in (made.Function params result) ≡ flat_map (λ p. paths_in (out-Param p).ty) params ++ paths_in result
function_paths params result =
    ap first (ap names_in (sym (rolls-Function params result)) ∙ fold-roll-FlowType (List Name) (List Name) (List Name) level_names (λ prop. prop.ty) (λ param. param.ty) (open_type.Function params result))
    ∙ map-append (λ n. n.0) (all_of (map param_names params)) (names_in result) ∙ ap (λ (l : List Bytes). l ++ paths_in result) (parts param_names (λ p. names_in (out-Param p).ty) param_is params)

pub ref_paths : (home name : Bytes) → paths_in (made.Ref home name) ≡ home ∷ []
ref_paths home name =
    ap first (ap names_in (sym (rolls-Ref home name)) ∙ fold-roll-FlowType (List Name) (List Name) (List Name) level_names (λ prop. prop.ty) (λ param. param.ty) (open_type.Ref home name))

-- what follows where a call succeeds
pub ok_then : {A E P Q : Type 0} (r : Result A E) → (P → Q) → OnOk r P → OnOk r Q
ok_then (Ok x) f told = f told
ok_then (Err e) f told = told

pub ruleset type_parts = (union_paths, tuple_paths, object_paths, function_paths, ref_paths)
