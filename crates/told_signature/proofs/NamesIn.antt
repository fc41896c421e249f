-- The names in a type, by its parts.
use Rattle.std.proofs.Common.{◌≡◌, Bool, List, [], ◌∷◌, ◌++◌, map, refl, sym, ap, ◌∙◌, append_assoc}
use Rattle.std.specs.List.{flat_map}
use Rattle.check_values.specs.Rows.{Bytes}
use Rattle.type_values.specs.declared.types.FlowType.{FlowType}
use Rattle.type_values.specs.declared.types.FlowType as made
use Rattle.type_values.specs.declared.types.FlowType.TheOpen as open_type
use Rattle.type_values.specs.declared.types.FlowType.TheViews.{rolls-Union, rolls-Object, rolls-Tuple, rolls-Function}
use Rattle.type_values.specs.declared.types.FlowType.TheFolds.{fold-FlowProp, fold-Param, fold-roll-FlowType, fold_out-FlowProp, fold_out-Param}
use Rattle.type_values.specs.declared.types.FlowProp.{FlowProp}
use Rattle.type_values.specs.declared.types.Param.{Param}
use Rattle.type_names.specs.Names.{Name, all_of, names_in, level_names}
use Rattle.local_signatures.specs.LocalSignature.{led_to_by_type}
use Rattle.std.proofs.lemmas.List.{map-append}

abbrev second : List Name → List Bytes
second names = map (λ n. n.1) names

-- the names of each part, one after another
parts : {X : Type 0} (h f : X → List Name) → ((x : X) → h x ≡ f x) → (xs : List X) → second (all_of (map h xs)) ≡ flat_map (λ x. second (f x)) xs
parts h f same [] = refl
parts h f same (x ∷ xs) =
    map-append (λ n. n.1) (h x) (all_of (map h xs)) ∙ ap (λ (l : List Name). second l ++ second (all_of (map h xs))) (same x) ∙ ap (λ (l : List Bytes). second (f x) ++ l) (parts h f same xs)

abbrev prop_names : FlowProp → List Name
prop_names = fold-FlowProp (List Name) (List Name) (List Name) level_names (λ prop. prop.ty) (λ param. param.ty)

abbrev param_names : Param → List Name
param_names = fold-Param (List Name) (List Name) (List Name) level_names (λ prop. prop.ty) (λ param. param.ty)

prop_is : (p : FlowProp) → prop_names p ≡ names_in p.ty
prop_is p = fold_out-FlowProp (List Name) (List Name) (List Name) level_names (λ prop. prop.ty) (λ param. param.ty) p

param_is : (p : Param) → param_names p ≡ names_in p.ty
param_is p = fold_out-Param (List Name) (List Name) (List Name) level_names (λ prop. prop.ty) (λ param. param.ty) p

pub union_names : (all : List FlowType) → led_to_by_type (made.Union all) ≡ flat_map led_to_by_type all
union_names all =
    ap second (ap names_in (sym (rolls-Union all)) ∙ fold-roll-FlowType (List Name) (List Name) (List Name) level_names (λ prop. prop.ty) (λ param. param.ty) (open_type.Union all)) ∙ parts names_in names_in (λ t. refl) all

pub tuple_names : (all : List FlowType) → led_to_by_type (made.Tuple all) ≡ flat_map led_to_by_type all
tuple_names all =
    ap second (ap names_in (sym (rolls-Tuple all)) ∙ fold-roll-FlowType (List Name) (List Name) (List Name) level_names (λ prop. prop.ty) (λ param. param.ty) (open_type.Tuple all)) ∙ parts names_in names_in (λ t. refl) all

pub object_names : (exact : Bool) (props : List FlowProp) → led_to_by_type (made.Object exact props) ≡ flat_map (λ p. led_to_by_type p.ty) props
object_names exact props =
    ap second (ap names_in (sym (rolls-Object exact props)) ∙ fold-roll-FlowType (List Name) (List Name) (List Name) level_names (λ prop. prop.ty) (λ param. param.ty) (open_type.Object exact props))
    ∙ parts prop_names (λ p. names_in p.ty) prop_is props

pub function_names : (params : List Param) (result : FlowType) → led_to_by_type (made.Function params result) ≡ flat_map (λ p. led_to_by_type p.ty) params ++ led_to_by_type result
function_names params result =
    ap second (ap names_in (sym (rolls-Function params result)) ∙ fold-roll-FlowType (List Name) (List Name) (List Name) level_names (λ prop. prop.ty) (λ param. param.ty) (open_type.Function params result))
    ∙ map-append (λ n. n.1) (all_of (map param_names params)) (names_in result) ∙ ap (λ (l : List Bytes). l ++ led_to_by_type result) (parts param_names (λ p. names_in p.ty) param_is params)

-- the names of the parameters, and then those of the result
pub function_added : (t : FlowType) (params inner : List Param) (result last : FlowType) (start middle all : List Bytes) → t ≡ made.Function params result → inner ≡ params → last ≡ result → middle ≡ start ++ flat_map (λ p. led_to_by_type p.ty) inner →
    all ≡ middle ++ led_to_by_type last → all ≡ start ++ led_to_by_type t
function_added t params inner result last start middle all is same_params same_result before after =
    after ∙ ap (λ (l : List Bytes). l ++ led_to_by_type last) before ∙ append_assoc start (flat_map (λ p. led_to_by_type p.ty) inner) (led_to_by_type last)
    ∙ ap (λ (l : List Bytes). start ++ l)
    (ap (λ (ps : List Param). flat_map (λ p. led_to_by_type p.ty) ps ++ led_to_by_type last) same_params ∙ ap (λ (u : FlowType). flat_map (λ p. led_to_by_type p.ty) params ++ led_to_by_type u) same_result ∙ sym (function_names params result) ∙ ap led_to_by_type (sym is))

pub ruleset type_parts = (union_names, tuple_names, object_names, function_names)
