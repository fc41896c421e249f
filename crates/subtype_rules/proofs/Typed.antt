-- The ways by numbers are the ways by the types of these numbers.
use Rattle.std.proofs.Common.{◌≡◌, ℕ, Bool, true, false, List, [], ◌∷◌, ◌++◌, map, Option, Some, None, slice_get, refl, sym, ap, ◌∙◌, subst, append_assoc, if◌then◌else◌}
use Rattle.type_values.specs.declared.types.FlowType.{FlowType, out-FlowType}
use Rattle.type_values.specs.declared.types.FlowType as made
use Rattle.type_values.specs.declared.types.FlowType.TheOpen.{Union, Object, Tuple, Array, ReadArray, Function, Ref}
use Rattle.type_values.specs.declared.types.FlowProp.{FlowProp}
use Rattle.type_values.specs.declared.types.Param.{Param}
use Rattle.type_values.specs.declared.types.Variance.{Variance}
use Rattle.type_values.specs.declared.types.Variance.TheVariants.{Both, Read, Write}
use Rattle.alias_table.specs.Aliases.{Key, is_text}
use Rattle.type_terms.specs.Optional.{eff}
use Rattle.subtyping.specs.Rows.{Pair, Level, is_free, objects_fit, both_ways, param_needs, prop_at, needs, needs_at, all_needs, one_way, left_ways, right_ways, part_ways, ways}
use Rattle.subtype_rules.specs.declared.terms.Node.{Node}
use Rattle.subtype_rules.specs.declared.links.Entry.{Entry}
use Rattle.subtype_rules.specs.Terms.{Link, AreNamed, IsLink, AreLinks, AreLinkWays, parts_of, effective_of, IsOpened, both_links, zip_links, param_links, place_from, place_at, entry_in, entry_at, entry_links, links_at, all_links, one_link_way, left_links, right_links, part_links, all_ways}
use Rattle.subtype_rules.proofs.Places.{later, place_later}
use Rattle.subtype_rules.proofs.Linked.{links_append}

abbrev Types : Type 0
Types = List FlowType

abbrev eff_prop : FlowProp → FlowType
eff_prop p = eff p.optional p.ty

abbrev eff_param : Param → FlowType
eff_param p = eff p.optional p.ty

ways_append : (types : Types) (a b : List (List Link)) (x y : List (List Pair)) → AreLinkWays types a x → AreLinkWays types b y → AreLinkWays types (a ++ b) (x ++ y)
ways_append types [] b [] y f g = g
ways_append types [] b (p ∷ x) y f g = absurd f
ways_append types (l ∷ a) b [] y f g = absurd f
ways_append types (l ∷ a) b (p ∷ x) y f g = (f.0, ways_append types a b x y f.1 g)

both_typed : (types : Types) (ks ls : List ℕ) (xs ys : List FlowType) → AreNamed types ks xs → AreNamed types ls ys → AreLinks types (both_links ks ls) (both_ways xs ys)
both_typed types [] ls [] ys f g = tt
both_typed types [] ls (x ∷ xs) ys f g = absurd f
both_typed types (k ∷ ks) ls [] ys f g = absurd f
both_typed types (k ∷ ks) [] (x ∷ xs) [] f g = tt
both_typed types (k ∷ ks) [] (x ∷ xs) (y ∷ ys) f g = absurd g
both_typed types (k ∷ ks) (l ∷ ls) (x ∷ xs) [] f g = absurd g
both_typed types (k ∷ ks) (l ∷ ls) (x ∷ xs) (y ∷ ys) f g = ((f.0, g.0), ((g.0, f.0), both_typed types ks ls xs ys f.1 g.1))

-- the one part of a type beside that of another
zip_typed : (types : Types) (ks ls : List ℕ) (x y : FlowType) → AreNamed types ks (x ∷ []) → AreNamed types ls (y ∷ []) → AreLinks types (zip_links ks ls) ((x, y) ∷ [])
zip_typed types [] ls x y f g = absurd f
zip_typed types (k ∷ []) [] x y f g = absurd g
zip_typed types (k ∷ []) (l ∷ []) x y f g = ((f.0, g.0), tt)
zip_typed types (k ∷ []) (l ∷ m ∷ ls) x y f g = absurd g.1
zip_typed types (k ∷ j ∷ ks) ls x y f g = absurd f.1

params_typed : (types : Types) (blank : ℕ) (ks ls : List ℕ) (ps qs : List Param) → slice_get types blank ≡ Some made.Void → AreNamed types ks (map eff_param ps) → AreNamed types ls (map eff_param qs) → AreLinks types (param_links blank ks ls) (param_needs ps qs)
params_typed types blank [] ls [] qs v f g = tt
params_typed types blank [] ls (p ∷ ps) qs v f g = absurd f
params_typed types blank (k ∷ ks) ls [] qs v f g = absurd f
params_typed types blank (k ∷ ks) [] (p ∷ ps) [] v f g = ((v, f.0), params_typed types blank ks [] ps [] v f.1 g)
params_typed types blank (k ∷ ks) [] (p ∷ ps) (q ∷ qs) v f g = absurd g
params_typed types blank (k ∷ ks) (l ∷ ls) (p ∷ ps) [] v f g = absurd g
params_typed types blank (k ∷ ks) (l ∷ ls) (p ∷ ps) (q ∷ qs) v f g = ((g.0, f.0), params_typed types blank ks ls ps qs v f.1 g.1)

each_typed : (types : Types) (ks : List ℕ) (xs : List FlowType) (j : ℕ) (b : FlowType) → AreNamed types ks xs → slice_get types j ≡ Some b → AreLinks types (map (λ k. (k, j)) ks) (map (λ x. (x, b)) xs)
each_typed types [] [] j b f e = tt
each_typed types [] (x ∷ xs) j b f e = absurd f
each_typed types (k ∷ ks) [] j b f e = absurd f
each_typed types (k ∷ ks) (x ∷ xs) j b f e = ((f.0, e), each_typed types ks xs j b f.1 e)

above_typed : (types : Types) (i : ℕ) (a : FlowType) (ks : List ℕ) (ys : List FlowType) → slice_get types i ≡ Some a → AreNamed types ks ys → AreLinkWays types (map (λ k. (i, k) ∷ []) ks) (map (λ y. (a, y) ∷ []) ys)
above_typed types i a [] [] e f = tt
above_typed types i a [] (y ∷ ys) e f = absurd f
above_typed types i a (k ∷ ks) [] e f = absurd f
above_typed types i a (k ∷ ks) (y ∷ ys) e f = (((e, f.0), tt), above_typed types i a ks ys e f.1)

one_typed : (types : Types) (b : Bool) (w : List Link) (v : List Pair) → AreLinks types w v → AreLinkWays types (one_link_way b w) (one_way b v)
one_typed types true w v f = (f, tt)
one_typed types false w v f = tt

-- ---- objects

abbrev IsEntry : Types → Option Entry → Option FlowProp → Type 0
IsEntry types None None = Unit {0}
IsEntry types None (Some p) = ⊥
IsEntry types (Some e) None = ⊥
IsEntry types (Some e) (Some p) = (e.variance ≡ p.variance) × (slice_get types e.ty ≡ Some p.ty) × (slice_get types e.effective ≡ Some (eff_prop p))

entry_later : (p : FlowProp) (ps : List FlowProp) (k : ℕ) (ks : List ℕ) (l : ℕ) (ls : List ℕ) (n : Option ℕ) → entry_in (p ∷ ps) (k ∷ ks) (l ∷ ls) (later n) ≡ entry_in ps ks ls n
entry_later p ps k ks l ls None = refl
entry_later p ps k ks l ls (Some n) = refl

entries_typed : (types : Types) (ps : List FlowProp) (ks ls : List ℕ) → AreNamed types ks (map (λ p. p.ty) ps) → AreNamed types ls (map eff_prop ps) → (key : List ℕ) → IsEntry types (entry_in ps ks ls (place_at ps key)) (prop_at ps key)
entries_typed types [] ks ls f g key = tt
entries_typed types (p ∷ ps) [] ls f g key = absurd f
entries_typed types (p ∷ ps) (k ∷ ks) [] f g key = absurd g
entries_typed types (p ∷ ps) (k ∷ ks) (l ∷ ls) f g key =
    by (is_text p.key key) (place_from 1 ps key)
    (subst (λ e. IsEntry types e (prop_at ps key)) (sym (ap (entry_in (p ∷ ps) (k ∷ ks) (l ∷ ls)) (place_later 0 ps key) ∙ entry_later p ps k ks l ls (place_at ps key))) (entries_typed types ps ks ls f.1 g.1 key))
  where
    by : (b : Bool) (m : Option ℕ) → IsEntry types (entry_in (p ∷ ps) (k ∷ ks) (l ∷ ls) m) (prop_at ps key) → IsEntry types (entry_in (p ∷ ps) (k ∷ ks) (l ∷ ls) (if b then Some 0 else m)) (if b then Some p else prop_at ps key)
    by true m e = (refl, f.0, g.0)
    by false m e = e

by_variance : (types : Types) (v : Variance) (e f : Entry) (p q : FlowProp) → IsEntry types (Some e) (Some p) → IsEntry types (Some f) (Some q) → AreLinks types (entry_links v e f) (needs v p q)
by_variance types Both e f p q a b = ((a.1, b.1), ((b.1, a.1), tt))
by_variance types Read e f p q a b = ((a.2, b.2), tt)
by_variance types Write e f p q a b = ((b.2, a.2), tt)

at_typed : (types : Types) (e f : Option Entry) (p q : Option FlowProp) → IsEntry types e p → IsEntry types f q → AreLinks types (links_at e f) (needs_at p q)
at_typed types None None None None a b = tt
at_typed types None (Some f) None (Some q) a b = tt
at_typed types (Some e) None (Some p) None a b = tt
at_typed types (Some e) (Some f) (Some p) (Some q) a b = subst (λ v. AreLinks types (entry_links v e f) (needs q.variance p q)) (sym b.0) (by_variance types q.variance e f p q a b)
at_typed types None f (Some p) q a b = absurd a
at_typed types (Some e) f None q a b = absurd a
at_typed types None None None (Some q) a b = absurd b
at_typed types None (Some f) None None a b = absurd b
at_typed types (Some e) None (Some p) (Some q) a b = absurd b
at_typed types (Some e) (Some f) (Some p) None a b = absurd b

all_typed : (types : Types) (ps : List FlowProp) (x : Node) (qs : List FlowProp) (y : Node) → ((key : List ℕ) → IsEntry types (entry_at ps x key) (prop_at ps key)) → ((key : List ℕ) → IsEntry types (entry_at qs y key) (prop_at qs key)) →
    (more : List FlowProp) → AreLinks types (all_links ps x qs y more) (all_needs ps qs more)
all_typed types ps x qs y f g [] = tt
all_typed types ps x qs y f g (q ∷ more) =
    links_append types (links_at (entry_at ps x q.key) (entry_at qs y q.key)) (all_links ps x qs y more) (needs_at (prop_at ps q.key) (prop_at qs q.key)) (all_needs ps qs more)
    (at_typed types (entry_at ps x q.key) (entry_at qs y q.key) (prop_at ps q.key) (prop_at qs q.key) (f q.key) (g q.key)) (all_typed types ps x qs y f g more)

-- ---- the rows

abbrev Opens : (Key → FlowType) → Types → Level → Node → Type 0
Opens named types a node = AreNamed types node.parts (parts_of named a) × AreNamed types node.effective (effective_of a) × (slice_get types node.blank ≡ Some made.Void)

left_typed : (named : Key → FlowType) (types : Types) (a : Level) (x : Node) (j : ℕ) (b : FlowType) → Opens named types a x → slice_get types j ≡ Some b → AreLinkWays types (left_links a x j) (left_ways named a b)
left_typed named types (Ref home name) x j b f e = (each_typed types x.parts (named (home, name) ∷ []) j b f.0 e, tt)
left_typed named types (Union all) x j b f e = (each_typed types x.parts all j b f.0 e, tt)
left_typed named types a x j b f e = tt

right_typed : (named : Key → FlowType) (types : Types) (i : ℕ) (a : FlowType) (b : Level) (y : Node) → slice_get types i ≡ Some a → Opens named types b y → AreLinkWays types (right_links i b y) (right_ways named a b)
right_typed named types i a (Ref home name) y e f = above_typed types i a y.parts (named (home, name) ∷ []) e f.0
right_typed named types i a (Union all) y e f = above_typed types i a y.parts all e f.0
right_typed named types i a b y e f = tt

part_typed : (named : Key → FlowType) (types : Types) (a : Level) (x : Node) (b : Level) (y : Node) → Opens named types a x → Opens named types b y → AreLinkWays types (part_links a x b y) (part_ways a b)
part_typed named types (Object closed_a ps) x (Object closed_b qs) y f g =
    one_typed types (objects_fit closed_a ps closed_b qs) (all_links ps x qs y qs) (all_needs ps qs qs)
    (all_typed types ps x qs y (entries_typed types ps x.parts x.effective f.0 f.1) (entries_typed types qs y.parts y.effective g.0 g.1) qs)
part_typed named types (Tuple xs) x (Tuple ys) y f g = one_typed types _ (both_links x.parts y.parts) (both_ways xs ys) (both_typed types x.parts y.parts xs ys f.0 g.0)
part_typed named types (Array t) x (Array u) y f g = (both_typed types x.parts y.parts (t ∷ []) (u ∷ []) f.0 g.0, tt)
part_typed named types (Array t) x (ReadArray u) y f g = (zip_typed types x.parts y.parts t u f.0 g.0, tt)
part_typed named types (ReadArray t) x (ReadArray u) y f g = (zip_typed types x.parts y.parts t u f.0 g.0, tt)
part_typed named types (Function ps r) x (Function qs s) y f g = (
  links_append types (zip_links x.parts y.parts) (param_links x.blank x.effective y.effective) ((r, s) ∷ []) (param_needs ps qs)
      (zip_typed types x.parts y.parts r s f.0 g.0) (params_typed types x.blank x.effective y.effective ps qs f.2 f.1 g.1),
  tt,
)
part_typed named types a x b y f g = tt

-- the ways by two numbers and their nodes
pub ways_typed : (named : Key → FlowType) (types : Types) (i j : ℕ) (p : Pair) (x y : Node) → is_free (out-FlowType p.0) (out-FlowType p.1) ≡ false → IsLink types (i, j) p → IsOpened named types p.0 x → IsOpened named types p.1 y →
    AreLinkWays types (all_ways i (out-FlowType p.0) x j (out-FlowType p.1) y) (ways named p)
ways_typed named types i j p x y off l f g =
    let a = out-FlowType p.0 in let b = out-FlowType p.1 in
    let left = left_typed named types a x j p.1 f l.1 in
    let right = right_typed named types i p.0 b y l.0 g in
    let part = part_typed named types a x b y f g in
    subst (λ (c : Bool). AreLinkWays types (all_ways i a x j b y) (if c then [] ∷ [] else left_ways named a p.1 ++ (right_ways named p.0 b ++ part_ways a b))) (sym off)
    (subst (λ (l : List (List Pair)). AreLinkWays types (all_ways i a x j b y) l) (append_assoc (left_ways named a p.1) (right_ways named p.0 b) (part_ways a b))
    (ways_append types (left_links a x j ++ right_links i b y) (part_links a x b y) (left_ways named a p.1 ++ right_ways named p.0 b) (part_ways a b)
    (ways_append types (left_links a x j) (right_links i b y) (left_ways named a p.1) (right_ways named p.0 b) left right) part))

-- the one way that needs nothing
pub free_typed : (named : Key → FlowType) (types : Types) (p : Pair) → is_free (out-FlowType p.0) (out-FlowType p.1) ≡ true → AreLinkWays types ([] ∷ []) (ways named p)
free_typed named types p on =
    subst (λ (c : Bool). AreLinkWays types ([] ∷ []) (if c then [] ∷ [] else left_ways named (out-FlowType p.0) p.1 ++ (right_ways named p.0 (out-FlowType p.1) ++ part_ways (out-FlowType p.0) (out-FlowType p.1)))) (sym on) (tt, tt)
