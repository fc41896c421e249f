-- Each type stands in a finite list that has the parts of all its types.
use Rattle.std.proofs.Common.{◌≡◌, zero, suc, Bool, true, false, List, [], ◌∷◌, ◌++◌, map, Contains, refl, sym, ap, ◌∙◌, arith, subst, inl, inr, ◌⊎◌}
use Rattle.std.specs.List.{flat_map}
use Rattle.std.proofs.lemmas.List.Elements.{Contains-append_left, Contains-append_right}
use Rattle.type_values.specs.declared.types.FlowType.{FlowType, out-FlowType, out-roll-FlowType, map-FlowType}
use Rattle.type_values.specs.declared.types.FlowType as made
use Rattle.type_values.specs.declared.types.FlowType.TheOpen.{FlowType-F, FlowProp-F, Param-F, Void, Union, Object, Tuple, Array, ReadArray, Function}
use Rattle.type_values.specs.declared.types.FlowType.TheViews.{roll-FlowType, rolls-Union, rolls-Void}
use Rattle.type_values.specs.declared.types.FlowType.TheFolds.{ind-FlowType}
use Rattle.type_values.specs.declared.types.FlowProp.{FlowProp}
use Rattle.type_values.specs.declared.types.Param.{Param}
use Rattle.subtyping.specs.Rows.{Level}
use Rattle.type_terms.specs.Optional.{eff}

abbrev pub prop_parts : Bool → FlowType → List FlowType
prop_parts optional t = t ∷ eff optional t ∷ []

abbrev pub parts : Level → List FlowType
parts (Union all) = all
parts (Object closed ps) = flat_map (λ p. prop_parts p.optional p.ty) ps
parts (Tuple all) = all
parts (Array x) = x ∷ []
parts (ReadArray x) = x ∷ []
parts (Function ps r) = r ∷ made.Void ∷ flat_map (λ p. prop_parts p.optional p.ty) ps
parts x = []

abbrev pub Within : List FlowType → List FlowType → Type 0
Within some all = (t : FlowType) → Contains some t → Contains all t

abbrev pub IsWhole : List FlowType → Type 0
IsWhole all = (t : FlowType) → Contains all t → Within (parts (out-FlowType t)) all

pub split : {X : Type 0} (xs ys : List X) (x : X) → Contains (xs ++ ys) x → Contains xs x ⊎ Contains ys x
split [] ys x c = inr c
split (y ∷ xs) ys x (zero, h, e) = inl (0, omega arith, e)
split (y ∷ xs) ys x (suc k, h, e) = elim (split xs ys x (k, omega (arith, h), e)) [
  | inl d ↦ inl (suc d.0, omega (arith, d.1), d.2)
  | inr d ↦ inr d
]

pub first_or : {X : Type 0} (y : X) (ys : List X) (x : X) → Contains (y ∷ ys) x → (y ≡ x) ⊎ Contains ys x
first_or y ys x (zero, h, e) = inl e
first_or y ys x (suc k, h, e) = inr (k, omega (arith, h), e)

pub nothing : {X : Type 0} {A : Type 0} (x : X) → Contains [] x → A
nothing x c = absurd (omega (arith, c.1))

pub here : {X : Type 0} (x : X) (xs : List X) → Contains (x ∷ xs) x
here x xs = (0, omega arith, refl)

pub there : {X : Type 0} (x y : X) (xs : List X) → Contains xs y → Contains (x ∷ xs) y
there x y xs c = (suc c.0, omega (arith, c.1), c.2)

abbrev pub Covers : List FlowType → Type 0
Covers some = (all : List FlowType) × Within some all × IsWhole all

whole_append : (a b : List FlowType) → IsWhole a → IsWhole b → IsWhole (a ++ b)
whole_append a b f g t c u d = elim (split a b t c) [
  | inl x ↦ Contains-append_left a b u (f t x u d)
  | inr x ↦ Contains-append_right a b u (g t x u d)
]

cover_none : Covers []
cover_none = ([], (λ t c. c), λ t c u d. nothing t c)

cover_more : (a b : List FlowType) → Covers a → Covers b → Covers (a ++ b)
cover_more a b f g = (
  f.0 ++ g.0,
  (λ t c. elim (split a b t c) [
    | inl x ↦ Contains-append_left f.0 g.0 t (f.1 t x)
    | inr x ↦ Contains-append_right f.0 g.0 t (g.1 t x)
  ]),
  whole_append f.0 g.0 f.2 g.2,
)

-- a type whose parts are covered
cover_type : (t : FlowType) → Covers (parts (out-FlowType t)) → Covers (t ∷ [])
cover_type t f = (
  t ∷ f.0,
  (λ u c. elim (first_or t [] u c) [
    | inl same ↦ subst (λ v. Contains (t ∷ f.0) v) same (here t f.0)
    | inr none ↦ nothing u none
  ]),
  λ u c v d. elim (first_or t f.0 u c) [
    | inl same ↦ there t v f.0 (f.1 v (subst (λ w. Contains (parts (out-FlowType w)) v) (sym same) d))
    | inr old ↦ there t v f.0 (f.2 u old v d)
  ],
)

out_union : (all : List FlowType) → parts (out-FlowType (made.Union all)) ≡ all
out_union all = ap (λ t. parts (out-FlowType t)) (sym (rolls-Union all)) ∙ ap parts (out-roll-FlowType (Union all))

out_void : parts (out-FlowType made.Void) ≡ []
out_void = ap (λ t. parts (out-FlowType t)) (sym rolls-Void) ∙ ap parts (out-roll-FlowType Void)

cover_void : Covers (made.Void ∷ [])
cover_void = cover_type made.Void (subst Covers (sym out_void) cover_none)

cover_eff : (optional : Bool) (t : FlowType) → Covers (t ∷ []) → Covers (eff optional t ∷ [])
cover_eff true t f = cover_type (made.Union (t ∷ made.Void ∷ [])) (subst Covers (sym (out_union (t ∷ made.Void ∷ []))) (cover_more (t ∷ []) (made.Void ∷ []) f cover_void))
cover_eff false t f = f

cover_prop : (optional : Bool) (t : FlowType) → Covers (t ∷ []) → Covers (prop_parts optional t)
cover_prop optional t f = cover_more (t ∷ []) (eff optional t ∷ []) f (cover_eff optional t f)

abbrev P : FlowType → Type 0
P t = Covers (t ∷ [])

abbrev Q : FlowProp → Type 0
Q p = Covers (prop_parts p.optional p.ty)

abbrev R : Param → Type 0
R p = Covers (prop_parts p.optional p.ty)

abbrev Proved : Type 0
Proved = FlowType-F ((t : FlowType) × P t) ((p : FlowProp) × Q p) ((p : Param) × R p)

abbrev bare : Proved → Level
bare y = map-FlowType ((t : FlowType) × P t) ((p : FlowProp) × Q p) ((p : Param) × R p) FlowType FlowProp Param (λ e. e.0) (λ e. e.0) (λ e. e.0) y

cover_all : (all : List ((t : FlowType) × P t)) → Covers (map (λ e. e.0) all)
cover_all [] = cover_none
cover_all (e ∷ all) = cover_more (e.0 ∷ []) (map (λ e. e.0) all) e.1 (cover_all all)

cover_props : (all : List ((p : FlowProp) × Q p)) → Covers (flat_map (λ p. prop_parts p.optional p.ty) (map (λ e. e.0) all))
cover_props [] = cover_none
cover_props (e ∷ all) = cover_more (prop_parts e.0.optional e.0.ty) (flat_map (λ p. prop_parts p.optional p.ty) (map (λ e. e.0) all)) e.1 (cover_props all)

cover_params : (all : List ((p : Param) × R p)) → Covers (flat_map (λ p. prop_parts p.optional p.ty) (map (λ e. e.0) all))
cover_params [] = cover_none
cover_params (e ∷ all) = cover_more (prop_parts e.0.optional e.0.ty) (flat_map (λ p. prop_parts p.optional p.ty) (map (λ e. e.0) all)) e.1 (cover_params all)

cover_level : (y : Proved) → Covers (parts (bare y))
cover_level (Union all) = cover_all all
cover_level (Object closed ps) = cover_props ps
cover_level (Tuple all) = cover_all all
cover_level (Array e) = e.1
cover_level (ReadArray e) = e.1
cover_level (Function ps r) = cover_more (r.0 ∷ []) (made.Void ∷ flat_map (λ p. prop_parts p.optional p.ty) (map (λ e. e.0) ps)) r.1 (cover_more (made.Void ∷ []) (flat_map (λ p. prop_parts p.optional p.ty) (map (λ e. e.0) ps)) cover_void (cover_params ps))
cover_level y = cover_none

pub cover : (t : FlowType) → Covers (t ∷ [])
cover = ind-FlowType P Q R
    (λ x y is. subst (λ (z : Level). P (roll-FlowType z)) is (cover_type (roll-FlowType (bare y)) (subst Covers (sym (ap parts (out-roll-FlowType (bare y)))) (cover_level y))))
    (λ x y is. subst (λ (z : FlowProp-F FlowType FlowProp Param). Covers (prop_parts z.optional z.ty)) is (cover_prop y.optional y.ty.0 y.ty.1))
    (λ x y is. subst (λ (z : Param-F FlowType FlowProp Param). Covers (prop_parts z.optional z.ty)) is (cover_prop y.optional y.ty.0 y.ty.1))

pub cover_types : (all : List FlowType) → Covers all
cover_types [] = cover_none
cover_types (t ∷ all) = cover_more (t ∷ []) all (cover t) (cover_types all)
