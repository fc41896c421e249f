-- A type whose names are replaced names only what the new types name.
use Rattle.std.proofs.Common.{◌≡◌, List, [], ◌∷◌, ◌++◌, map, sym, ap, ◌∙◌, subst}
use Rattle.std.specs.List.{AllByRecursion}
use Rattle.check_values.specs.Rows.{Bytes}
use Rattle.type_values.specs.declared.types.FlowType.{FlowType, map-FlowType}
use Rattle.type_values.specs.declared.types.FlowType as made
use Rattle.type_values.specs.declared.types.FlowType.TheOpen.{FlowType-F, FlowProp-F, Param-F, Any, Mixed, Empty, Number, Str, Boolean, Null, Void, StrLit, NumLit, BoolLit, Union, Object, Tuple, Array, ReadArray, Function, Ref}
use Rattle.type_values.specs.declared.types.FlowType.TheViews.{roll-FlowType, rolls-Any, rolls-Mixed, rolls-Empty, rolls-Number, rolls-Str, rolls-Boolean, rolls-Null, rolls-Void, rolls-StrLit, rolls-NumLit, rolls-BoolLit, rolls-Union, rolls-Object, rolls-Tuple, rolls-Array, rolls-ReadArray, rolls-Function, rolls-Ref}
use Rattle.type_values.specs.declared.types.FlowType.TheFolds.{fold-FlowProp, fold-Param, fold-roll-FlowType, fold_out-FlowProp, fold_out-Param, ind-FlowType}
use Rattle.type_values.specs.declared.types.FlowProp.{FlowProp}
use Rattle.type_values.specs.declared.types.Param.{Param}
use Rattle.type_names.specs.Names.{Name, all_of, level_names, names_in, level_replaced, prop_replaced, param_replaced, replaced}
use Rattle.merged_signatures.specs.Reach.{paths_in}

abbrev Level : Type 0
Level = FlowType-F FlowType FlowProp Param

abbrev homes : List Name → List Bytes
homes names = map (λ n. n.0) names

abbrev prop_names : FlowProp → List Name
prop_names = fold-FlowProp (List Name) (List Name) (List Name) level_names (λ prop. prop.ty) (λ param. param.ty)

abbrev param_names : Param → List Name
param_names = fold-Param (List Name) (List Name) (List Name) level_names (λ prop. prop.ty) (λ param. param.ty)

-- the names of a level
abbrev names_of : Level → List Name
names_of z = level_names (map-FlowType FlowType FlowProp Param (List Name) (List Name) (List Name) names_in prop_names param_names z)

module _ (In : Bytes → Type 0) where
  -- these paths are all in a set
  abbrev pub Inside : List Bytes → Type 0
  Inside paths = AllByRecursion In paths

  pub inside_append : (xs ys : List Bytes) → Inside xs → Inside ys → Inside (xs ++ ys)
  inside_append [] ys a b = b
  inside_append (x ∷ xs) ys a b = (a.0, inside_append xs ys a.1 b)

  homes_append : (ns ms : List Name) → Inside (homes ns) → Inside (homes ms) → Inside (homes (ns ++ ms))
  homes_append [] ms a b = b
  homes_append (n ∷ ns) ms a b = (a.0, homes_append ns ms a.1 b)

  -- a type by its level
  by_level : (z : Level) (t : FlowType) → roll-FlowType z ≡ t → Inside (homes (names_of z)) → Inside (paths_in t)
  by_level z t rolls inside =
      subst (λ (u : FlowType). Inside (paths_in u)) rolls
      (subst (λ (names : List Name). Inside (homes names)) (sym (fold-roll-FlowType (List Name) (List Name) (List Name) level_names (λ prop. prop.ty) (λ param. param.ty) z)) inside)

  pub any_inside : Inside (paths_in made.Any)
  any_inside = by_level Any made.Any rolls-Any tt

  pub ref_inside : (home name : Bytes) → In home → Inside (paths_in (made.Ref home name))
  ref_inside home name is = by_level (Ref home name) (made.Ref home name) (rolls-Ref home name) (is, tt)

  module _ (means : Name → FlowType) (each : (n : Name) → Inside (paths_in (means n))) where
    abbrev new_type : FlowType → FlowType
    new_type t = replaced means t

    abbrev new_prop : FlowProp → FlowProp
    new_prop = fold-FlowProp FlowType FlowProp Param (level_replaced means) prop_replaced param_replaced

    abbrev new_param : Param → Param
    new_param = fold-Param FlowType FlowProp Param (level_replaced means) prop_replaced param_replaced

    abbrev P : FlowType → Type 0
    P t = Inside (paths_in (new_type t))

    abbrev Q : FlowProp → Type 0
    Q p = P p.ty

    abbrev R : Param → Type 0
    R p = P p.ty

    -- a level with a proof beside each part of it
    abbrev Proved : Type 0
    Proved = FlowType-F ((t : FlowType) × P t) ((p : FlowProp) × Q p) ((p : Param) × R p)

    abbrev bare : Proved → Level
    bare y = map-FlowType ((t : FlowType) × P t) ((p : FlowProp) × Q p) ((p : Param) × R p) FlowType FlowProp Param (λ e. e.0) (λ e. e.0) (λ e. e.0) y

    abbrev new_level : Proved → Level
    new_level y = map-FlowType FlowType FlowProp Param FlowType FlowProp Param new_type new_prop new_param (bare y)

    prop_named : (p : FlowProp) → prop_names (new_prop p) ≡ names_in (new_type p.ty)
    prop_named p =
        fold_out-FlowProp (List Name) (List Name) (List Name) level_names (λ prop. prop.ty) (λ param. param.ty) (new_prop p)
        ∙ ap (λ (q : FlowProp). names_in q.ty) (fold_out-FlowProp FlowType FlowProp Param (level_replaced means) prop_replaced param_replaced p)

    param_named : (p : Param) → param_names (new_param p) ≡ names_in (new_type p.ty)
    param_named p =
        fold_out-Param (List Name) (List Name) (List Name) level_names (λ prop. prop.ty) (λ param. param.ty) (new_param p)
        ∙ ap (λ (q : Param). names_in q.ty) (fold_out-Param FlowType FlowProp Param (level_replaced means) prop_replaced param_replaced p)

    types_inside : (all : List ((t : FlowType) × P t)) → Inside (homes (all_of (map names_in (map new_type (map (λ e. e.0) all)))))
    types_inside [] = tt
    types_inside (e ∷ all) = homes_append (names_in (new_type e.0)) (all_of (map names_in (map new_type (map (λ f. f.0) all)))) e.1 (types_inside all)

    props_inside : (all : List ((p : FlowProp) × Q p)) → Inside (homes (all_of (map prop_names (map new_prop (map (λ e. e.0) all)))))
    props_inside [] = tt
    props_inside (e ∷ all) =
        homes_append (prop_names (new_prop e.0)) (all_of (map prop_names (map new_prop (map (λ f. f.0) all)))) (subst (λ (names : List Name). Inside (homes names)) (sym (prop_named e.0)) e.1) (props_inside all)

    params_inside : (all : List ((p : Param) × R p)) → Inside (homes (all_of (map param_names (map new_param (map (λ e. e.0) all)))))
    params_inside [] = tt
    params_inside (e ∷ all) =
        homes_append (param_names (new_param e.0)) (all_of (map param_names (map new_param (map (λ f. f.0) all)))) (subst (λ (names : List Name). Inside (homes names)) (sym (param_named e.0)) e.1) (params_inside all)

    level_inside : (y : Proved) → Inside (paths_in (level_replaced means (new_level y)))
    level_inside Any = by_level Any made.Any rolls-Any tt
    level_inside Mixed = by_level Mixed made.Mixed rolls-Mixed tt
    level_inside Empty = by_level Empty made.Empty rolls-Empty tt
    level_inside Number = by_level Number made.Number rolls-Number tt
    level_inside Str = by_level Str made.Str rolls-Str tt
    level_inside Boolean = by_level Boolean made.Boolean rolls-Boolean tt
    level_inside Null = by_level Null made.Null rolls-Null tt
    level_inside Void = by_level Void made.Void rolls-Void tt
    level_inside (StrLit text) = by_level (StrLit text) (made.StrLit text) (rolls-StrLit text) tt
    level_inside (NumLit text) = by_level (NumLit text) (made.NumLit text) (rolls-NumLit text) tt
    level_inside (BoolLit b) = by_level (BoolLit b) (made.BoolLit b) (rolls-BoolLit b) tt
    level_inside (Union all) = let us = map new_type (map (λ e. e.0) all) in by_level (Union us) (made.Union us) (rolls-Union us) (types_inside all)
    level_inside (Object exact all) = let ps = map new_prop (map (λ e. e.0) all) in by_level (Object exact ps) (made.Object exact ps) (rolls-Object exact ps) (props_inside all)
    level_inside (Tuple all) = let us = map new_type (map (λ e. e.0) all) in by_level (Tuple us) (made.Tuple us) (rolls-Tuple us) (types_inside all)
    level_inside (Array e) = by_level (Array (new_type e.0)) (made.Array (new_type e.0)) (rolls-Array (new_type e.0)) e.1
    level_inside (ReadArray e) = by_level (ReadArray (new_type e.0)) (made.ReadArray (new_type e.0)) (rolls-ReadArray (new_type e.0)) e.1
    level_inside (Function all e) =
        let ps = map new_param (map (λ e. e.0) all) in
        by_level (Function ps (new_type e.0)) (made.Function ps (new_type e.0)) (rolls-Function ps (new_type e.0))
        (homes_append (all_of (map param_names ps)) (names_in (new_type e.0)) (params_inside all) e.1)
    level_inside (Ref home name) = each (home, name)

    pub replaced_inside : (t : FlowType) → Inside (paths_in (replaced means t))
    replaced_inside = ind-FlowType P Q R
        (λ x y is. subst (λ (z : Level). P (roll-FlowType z)) is (subst (λ (u : FlowType). Inside (paths_in u)) (sym (fold-roll-FlowType FlowType FlowProp Param (level_replaced means) prop_replaced param_replaced (bare y))) (level_inside y)))
        (λ x y is. subst (λ (z : FlowProp-F FlowType FlowProp Param). P z.ty) is y.ty.1)
        (λ x y is. subst (λ (z : Param-F FlowType FlowProp Param). P z.ty) is y.ty.1)
