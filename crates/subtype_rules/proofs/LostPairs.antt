-- Pairs that are lost, as their properties tell.
use Rattle.std.proofs.Common.{◌≡◌, ℕ, zero, suc, ◌<◌, Bool, true, false, List, [], ◌∷◌, ◌++◌, length, get_or, map, Contains, refl, sym, ap, ◌∙◌, arith, subst, inl, inr, if◌then◌else◌, ◌&&◌, true≢false}
use Rattle.std.specs.List.{list_all}
use Rattle.std.proofs.lemmas.List.{append-nil}
use Rattle.std.proofs.lemmas.List.Elements.{Contains-append_left, Contains-append_right}
use Rattle.type_values.specs.declared.types.FlowType.{FlowType, out-FlowType}
use Rattle.type_values.specs.declared.types.FlowProp.{FlowProp}
use Rattle.type_values.specs.declared.types.Variance.{Variance}
use Rattle.type_values.specs.declared.types.Variance.TheVariants.{Both, Read, Write}
use Rattle.type_values.specs.declared.types.FlowType.TheOpen.{Object, Tuple, Array, ReadArray, Function, Union}
use Rattle.alias_table.specs.Aliases.{Key}
use Rattle.type_terms.specs.Optional.{eff}
use Rattle.subtyping.specs.Rows.{Pair, Level, is_free, does_open, has_no_ways, left_ways, right_ways, part_ways, ways, one_way, objects_fit, all_needs, needs_at, needs, prop_at}
use Rattle.subtyping.specs.Collected.{IsLost}
use Rattle.subtype_rules.specs.Kept.{HasDead, HasLost}
use Rattle.subtyping.proofs.Whole.{first_or, nothing, here, there}
use Rattle.subtyping.proofs.Lifted.{no_ways, left_none, right_none, lost_none, lost_by_looks}
use Rattle.subtyping.proofs.Justified.{below_justified}
use Rattle.subtyping.proofs.Itself.{map_in, map_out}

dead_first : (named : Key → FlowType) (p : Pair) (some : List Pair) → has_no_ways (out-FlowType p.0) (out-FlowType p.1) ≡ true → HasDead named (p ∷ some)
dead_first named p some off = (p, here p some, no_ways named p off)

dead_later : (named : Key → FlowType) (p : Pair) (some : List Pair) → HasDead named some → HasDead named (p ∷ some)
dead_later named p some d = (d.0, there p d.0 some d.1, d.2)

-- the types of two properties, either way round, as the second one's variance asks
pub both_dead_left : (p q : FlowProp) → q.variance ≡ Both → has_no_ways (out-FlowType p.ty) (out-FlowType q.ty) ≡ true → (named : Key → FlowType) → HasDead named (needs q.variance p q)
both_dead_left p q is off named = subst (λ (v : Variance). HasDead named (needs v p q)) (sym is) (dead_first named (p.ty, q.ty) ((q.ty, p.ty) ∷ []) off)

pub both_dead_right : (p q : FlowProp) → q.variance ≡ Both → has_no_ways (out-FlowType q.ty) (out-FlowType p.ty) ≡ true → (named : Key → FlowType) → HasDead named (needs q.variance p q)
both_dead_right p q is off named = subst (λ (v : Variance). HasDead named (needs v p q)) (sym is) (dead_later named (p.ty, q.ty) ((q.ty, p.ty) ∷ []) (dead_first named (q.ty, p.ty) [] off))

same_eff : (optional : Bool) (t : FlowType) → optional ≡ false → eff optional t ≡ t
same_eff true t is = cc
same_eff false t is = refl

pub read_dead : (p q : FlowProp) → q.variance ≡ Read → p.optional ≡ false → q.optional ≡ false → has_no_ways (out-FlowType p.ty) (out-FlowType q.ty) ≡ true → (named : Key → FlowType) → HasDead named (needs q.variance p q)
read_dead p q is a b off named =
    let e : (eff p.optional p.ty, eff q.optional q.ty) ≡ (p.ty, q.ty) = λ j. (same_eff p.optional p.ty a j, same_eff q.optional q.ty b j) in
    subst (λ (v : Variance). HasDead named (needs v p q)) (sym is) (subst (λ (r : Pair). HasDead named (r ∷ [])) (sym e) (dead_first named (p.ty, q.ty) [] off))

pub write_dead : (p q : FlowProp) → q.variance ≡ Write → p.optional ≡ false → q.optional ≡ false → has_no_ways (out-FlowType q.ty) (out-FlowType p.ty) ≡ true → (named : Key → FlowType) → HasDead named (needs q.variance p q)
write_dead p q is a b off named =
    let e : (eff q.optional q.ty, eff p.optional p.ty) ≡ (q.ty, p.ty) = λ j. (same_eff q.optional q.ty b j, same_eff p.optional p.ty a j) in
    subst (λ (v : Variance). HasDead named (needs v p q)) (sym is) (subst (λ (r : Pair). HasDead named (r ∷ [])) (sym e) (dead_first named (q.ty, p.ty) [] off))

-- the needs at a key of B are among all
at_key : (ps qs more : List FlowProp) (i : ℕ) (q : FlowProp) → i < length more → q ≡ get_or more i q → (r : Pair) → Contains (needs_at (prop_at ps q.key) (prop_at qs q.key)) r → Contains (all_needs ps qs more) r
at_key ps qs [] i q h e r c = absurd (omega (arith, h))
at_key ps qs (x ∷ more) zero q h e r c = subst (λ (y : FlowProp). Contains (needs_at (prop_at ps y.key) (prop_at qs y.key) ++ all_needs ps qs more) r) e (Contains-append_left (needs_at (prop_at ps q.key) (prop_at qs q.key)) (all_needs ps qs more) r c)
at_key ps qs (x ∷ more) (suc i) q h e r c = Contains-append_right (needs_at (prop_at ps x.key) (prop_at qs x.key)) (all_needs ps qs more) r (at_key ps qs more i q (omega (arith, h)) e r c)

pub dead_at : (ps qs : List FlowProp) (i : ℕ) (q : FlowProp) → i < length qs → q ≡ get_or qs i q → ((named : Key → FlowType) → HasDead named (needs_at (prop_at ps q.key) (prop_at qs q.key))) → (named : Key → FlowType) → HasDead named (all_needs ps qs qs)
dead_at ps qs i q h e dead named = let d = dead named in (d.0, at_key ps qs qs i q h e d.0 d.1, d.2)

one_only : (b : Bool) (way w : List Pair) → Contains (one_way b way) w → way ≡ w
one_only true way w c = elim (first_or way [] w c) [ inl is ↦ is | inr rest ↦ nothing w rest ]
one_only false way w c = nothing w c

-- two objects whose needs have a dead pair
pub objects_lost : (a b : FlowType) (closed_a closed_b : Bool) (ps qs : List FlowProp) → out-FlowType a ≡ Object closed_a ps → out-FlowType b ≡ Object closed_b qs → ((named : Key → FlowType) → HasDead named (all_needs ps qs qs)) → (named : Key → FlowType) → IsLost named (a, b)
objects_lost a b closed_a closed_b ps qs a_is b_is dead named below =
    let only : ways named (a, b) ≡ one_way (objects_fit closed_a ps closed_b qs) (all_needs ps qs qs) = λ j. by_levels (a_is j) (b_is j) in
    let why = below_justified named a b below in
    let same = one_only (objects_fit closed_a ps closed_b qs) (all_needs ps qs qs) why.0 (subst (λ (l : List (List Pair)). Contains l why.0) only why.1) in
    let d = dead named in lost_none named d.0 d.2 (why.2 d.0 (subst (λ (l : List Pair). Contains l d.0) same d.1))
  where
    by_levels : Level → Level → List (List Pair)
    by_levels x y = if is_free x y then [] ∷ [] else left_ways named x b ++ (right_ways named a y ++ part_ways x y)

no_part : (x : Level) (all : List FlowType) → part_ways x (Union all) ≡ []
no_part (Object closed ps) all = refl
no_part (Tuple xs) all = refl
no_part (Array x) all = refl
no_part (ReadArray x) all = refl
no_part (Function ps r) all = refl
no_part x all = refl

each_off : (f : FlowType → Bool) (all : List FlowType) → list_all f all ≡ true → (y : FlowType) → Contains all y → f y ≡ true
each_off f [] on y c = nothing y c
each_off f (x ∷ all) on y c = go (f x) refl on (λ rest later. each_off f all rest y later)
  where
    go : (b : Bool) → f x ≡ b → b && list_all f all ≡ true → (list_all f all ≡ true → Contains all y → f y ≡ true) → f y ≡ true
    go true is rest more = elim (first_or x all y c) [ inl same ↦ ap f (sym same) ∙ is | inr later ↦ more rest later ]
    go false is rest more = absurd (true≢false (sym rest))

-- a type that doesn't open, and a union none of whose members it may be below
pub misses_lost : (a b : FlowType) (all : List FlowType) → out-FlowType b ≡ Union all → does_open (out-FlowType a) ≡ false → is_free (out-FlowType a) (out-FlowType b) ≡ false → list_all (λ y. has_no_ways (out-FlowType a) (out-FlowType y)) all ≡ true → (named : Key → FlowType) → IsLost named (a, b)
misses_lost a b all b_is opens free off named below =
    let x = out-FlowType a in
    let above : List (List Pair) = map (λ y. (a, y) ∷ []) all in
    let only : ways named (a, b) ≡ above =
    ap (λ (z : Bool). if z then [] ∷ [] else left_ways named x b ++ (right_ways named a (out-FlowType b) ++ part_ways x (out-FlowType b))) free
    ∙ ap (λ (l : List (List Pair)). l ++ (right_ways named a (out-FlowType b) ++ part_ways x (out-FlowType b))) (left_none named x b opens)
    ∙ ap (λ (z : Level). right_ways named a z ++ part_ways x z) b_is
    ∙ ap (λ (l : List (List Pair)). above ++ l) (no_part x all)
    ∙ append-nil above in
    let why = below_justified named a b below in
    let m = map_out (λ (y : FlowType). (a, y) ∷ []) all why.0 (subst (λ (l : List (List Pair)). Contains l why.0) only why.1) in
    lost_by_looks (a, m.0) (each_off (λ y. has_no_ways x (out-FlowType y)) all off m.0 m.1) named (why.2 (a, m.0) (subst (λ (w : List Pair). Contains w (a, m.0)) m.2 (here (a, m.0) [])))

pub lost_at : (named : Key → FlowType) (all : List FlowType) (b : FlowType) (i : ℕ) (x : FlowType) → i < length all → x ≡ get_or all i x → IsLost named (x, b) → HasLost named all b
lost_at named all b i x h e lost = (x, (i, h, sym e), lost)

-- a union with a member that is lost, and a type that doesn't open
pub loses_lost : (a b : FlowType) (all : List FlowType) → out-FlowType a ≡ Union all → does_open (out-FlowType b) ≡ false → is_free (out-FlowType a) (out-FlowType b) ≡ false → (named : Key → FlowType) → HasLost named all b → IsLost named (a, b)
loses_lost a b all a_is opens free named some below =
    let y = out-FlowType b in
    let only : ways named (a, b) ≡ map (λ x. (x, b)) all ∷ [] =
    ap (λ (z : Bool). if z then [] ∷ [] else left_ways named (out-FlowType a) b ++ (right_ways named a y ++ part_ways (out-FlowType a) y)) free
    ∙ ap (λ (l : List (List Pair)). left_ways named (out-FlowType a) b ++ (l ++ part_ways (out-FlowType a) y)) (right_none named a y opens)
    ∙ ap (λ (z : Level). left_ways named z b ++ part_ways z y) a_is in
    let why = below_justified named a b below in
    elim (first_or (map (λ x. (x, b)) all) [] why.0 (subst (λ (l : List (List Pair)). Contains l why.0) only why.1)) [
      | inl same ↦ some.2 (why.2 (some.0, b) (subst (λ (l : List Pair). Contains l (some.0, b)) same (map_in (λ (x : FlowType). (x, b)) all some.0 some.1)))
      | inr none ↦ nothing why.0 none
    ]
