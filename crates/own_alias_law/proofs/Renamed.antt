-- Types whose names are replaced by two rules that agree at the names that stand in them.
use Rattle.std.proofs.Common.{◌≡◌, List, [], ◌∷◌, ◌++◌, map, refl, sym, ap, ap₂, ◌∙◌, subst}
use Rattle.std.specs.List.{AllByRecursion}
use Rattle.type_values.specs.declared.types.FlowType.{FlowType, map-FlowType}
use Rattle.type_values.specs.declared.types.FlowType as made
use Rattle.type_values.specs.declared.types.FlowType.TheOpen.{FlowType-F, FlowProp-F, Param-F, Any, Mixed, Empty, Number, Str, Boolean, Null, Void, StrLit, NumLit, BoolLit, Union, Object, Tuple, Array, ReadArray, Function, Ref}
use Rattle.type_values.specs.declared.types.FlowType.TheViews.{roll-FlowType}
use Rattle.type_values.specs.declared.types.FlowType.TheFolds.{fold-FlowProp, fold-Param, fold-roll-FlowType, fold_out-FlowProp, fold_out-Param, ind-FlowType}
use Rattle.type_values.specs.declared.types.FlowProp.{FlowProp}
use Rattle.type_values.specs.declared.types.Param.{Param}
use Rattle.type_names.specs.Names.{Name, all_of, level_names, names_in, level_replaced, prop_replaced, param_replaced, replaced}

abbrev Level : Type 0
Level = FlowType-F FlowType FlowProp Param

abbrev prop_names : FlowProp → List Name
prop_names = fold-FlowProp (List Name) (List Name) (List Name) level_names (λ prop. prop.ty) (λ param. param.ty)

abbrev param_names : Param → List Name
param_names = fold-Param (List Name) (List Name) (List Name) level_names (λ prop. prop.ty) (λ param. param.ty)

-- the names of a level
abbrev names_of : Level → List Name
names_of z = level_names (map-FlowType FlowType FlowProp Param (List Name) (List Name) (List Name) names_in prop_names param_names z)

prop_named : (p : FlowProp) → prop_names p ≡ names_in p.ty
prop_named p = fold_out-FlowProp (List Name) (List Name) (List Name) level_names (λ prop. prop.ty) (λ param. param.ty) p

param_named : (p : Param) → param_names p ≡ names_in p.ty
param_named p = fold_out-Param (List Name) (List Name) (List Name) level_names (λ prop. prop.ty) (λ param. param.ty) p

-- a type by its level
abbrev level_by : (Name → FlowType) → Level → FlowType
level_by means z =
    level_replaced means (map-FlowType FlowType FlowProp Param FlowType FlowProp Param (replaced means) (fold-FlowProp FlowType FlowProp Param (level_replaced means) prop_replaced param_replaced)
    (fold-Param FlowType FlowProp Param (level_replaced means) prop_replaced param_replaced) z)

module _ (one other : Name → FlowType) where
  -- the rules agree at these names
  abbrev pub Agree : List Name → Type 0
  Agree names = AllByRecursion (λ n. one n ≡ other n) names

  first_agree : (xs ys : List Name) → Agree (xs ++ ys) → Agree xs
  first_agree [] ys a = tt
  first_agree (x ∷ xs) ys a = (a.0, first_agree xs ys a.1)

  rest_agree : (xs ys : List Name) → Agree (xs ++ ys) → Agree ys
  rest_agree [] ys a = a
  rest_agree (x ∷ xs) ys a = rest_agree xs ys a.1

  abbrev P : FlowType → Type 0
  P t = Agree (names_in t) → replaced one t ≡ replaced other t

  abbrev Q : FlowProp → Type 0
  Q p = P p.ty

  abbrev R : Param → Type 0
  R p = P p.ty

  -- a level with a proof beside each part of it
  abbrev Proved : Type 0
  Proved = FlowType-F ((t : FlowType) × P t) ((p : FlowProp) × Q p) ((p : Param) × R p)

  abbrev bare : Proved → Level
  bare y = map-FlowType ((t : FlowType) × P t) ((p : FlowProp) × Q p) ((p : Param) × R p) FlowType FlowProp Param (λ e. e.0) (λ e. e.0) (λ e. e.0) y

  abbrev prop_by : (Name → FlowType) → FlowProp → FlowProp
  prop_by means = fold-FlowProp FlowType FlowProp Param (level_replaced means) prop_replaced param_replaced

  abbrev param_by : (Name → FlowType) → Param → Param
  param_by means = fold-Param FlowType FlowProp Param (level_replaced means) prop_replaced param_replaced

  prop_same : (p : FlowProp) → replaced one p.ty ≡ replaced other p.ty → prop_by one p ≡ prop_by other p
  prop_same p same =
      fold_out-FlowProp FlowType FlowProp Param (level_replaced one) prop_replaced param_replaced p
      ∙ (λ j. record { key = p.key; variance = p.variance; optional = p.optional; ty = same j })
      ∙ sym (fold_out-FlowProp FlowType FlowProp Param (level_replaced other) prop_replaced param_replaced p)

  param_same : (p : Param) → replaced one p.ty ≡ replaced other p.ty → param_by one p ≡ param_by other p
  param_same p same =
      fold_out-Param FlowType FlowProp Param (level_replaced one) prop_replaced param_replaced p ∙ (λ j. record { optional = p.optional; ty = same j })
      ∙ sym (fold_out-Param FlowType FlowProp Param (level_replaced other) prop_replaced param_replaced p)

  types_same : (all : List ((t : FlowType) × P t)) → Agree (all_of (map names_in (map (λ e. e.0) all))) → map (replaced one) (map (λ e. e.0) all) ≡ map (replaced other) (map (λ e. e.0) all)
  types_same [] a = refl
  types_same (e ∷ all) a =
      let later = all_of (map names_in (map (λ f. f.0) all)) in
      let here = e.1 (first_agree (names_in e.0) later a) in
      let rest = types_same all (rest_agree (names_in e.0) later a) in
      λ j. here j ∷ rest j

  props_same : (all : List ((p : FlowProp) × Q p)) → Agree (all_of (map prop_names (map (λ e. e.0) all))) → map (prop_by one) (map (λ e. e.0) all) ≡ map (prop_by other) (map (λ e. e.0) all)
  props_same [] a = refl
  props_same (e ∷ all) a =
      let later = all_of (map prop_names (map (λ f. f.0) all)) in
      let here = prop_same e.0 (e.1 (subst Agree (prop_named e.0) (first_agree (prop_names e.0) later a))) in
      let rest = props_same all (rest_agree (prop_names e.0) later a) in
      λ j. here j ∷ rest j

  params_same : (all : List ((p : Param) × R p)) → Agree (all_of (map param_names (map (λ e. e.0) all))) → map (param_by one) (map (λ e. e.0) all) ≡ map (param_by other) (map (λ e. e.0) all)
  params_same [] a = refl
  params_same (e ∷ all) a =
      let later = all_of (map param_names (map (λ f. f.0) all)) in
      let here = param_same e.0 (e.1 (subst Agree (param_named e.0) (first_agree (param_names e.0) later a))) in
      let rest = params_same all (rest_agree (param_names e.0) later a) in
      λ j. here j ∷ rest j

  level_same : (y : Proved) → Agree (names_of (bare y)) → level_by one (bare y) ≡ level_by other (bare y)
  level_same Any a = refl
  level_same Mixed a = refl
  level_same Empty a = refl
  level_same Number a = refl
  level_same Str a = refl
  level_same Boolean a = refl
  level_same Null a = refl
  level_same Void a = refl
  level_same (StrLit text) a = refl
  level_same (NumLit text) a = refl
  level_same (BoolLit b) a = refl
  level_same (Union all) a = ap made.Union (types_same all a)
  level_same (Object exact all) a = ap (made.Object exact) (props_same all a)
  level_same (Tuple all) a = ap made.Tuple (types_same all a)
  level_same (Array e) a = ap made.Array (e.1 a)
  level_same (ReadArray e) a = ap made.ReadArray (e.1 a)
  level_same (Function all e) a =
      let inner = all_of (map param_names (map (λ f. f.0) all)) in
      ap₂ made.Function (params_same all (first_agree inner (names_in e.0) a)) (e.1 (rest_agree inner (names_in e.0) a))
  level_same (Ref home name) a = a.0

  rolled : (y : Proved) → P (roll-FlowType (bare y))
  rolled y a =
      fold-roll-FlowType FlowType FlowProp Param (level_replaced one) prop_replaced param_replaced (bare y)
      ∙ level_same y (subst Agree (fold-roll-FlowType (List Name) (List Name) (List Name) level_names (λ prop. prop.ty) (λ param. param.ty) (bare y)) a)
      ∙ sym (fold-roll-FlowType FlowType FlowProp Param (level_replaced other) prop_replaced param_replaced (bare y))

  pub replaced_same : (t : FlowType) → Agree (names_in t) → replaced one t ≡ replaced other t
  replaced_same = ind-FlowType P Q R
      (λ x y is. subst (λ (z : Level). P (roll-FlowType z)) is (rolled y))
      (λ x y is. subst (λ (z : FlowProp-F FlowType FlowProp Param). P z.ty) is y.ty.1)
      (λ x y is. subst (λ (z : Param-F FlowType FlowProp Param). P z.ty) is y.ty.1)
