-- What stands outside of a group, and where the numbers of a group lie.
use Rattle.std.proofs.Common.{◌≡◌, ℕ, ◌+◌, ◌<◌, List, [], ◌∷◌, ◌++◌, All, map, length, take, get_or, slice_get, Option, Some, sym, ap, ◌∙◌, subst, arith, append-nil, append_assoc}
use Rattle.std.specs.List.{flat_map}
use Rattle.std.proofs.lemmas.List.Elements.{All-get_or}
use Rattle.check_values.specs.Rows.{Rows}
use Rattle.check_values.specs.declared.signatures.Sig.{Sig}
use Rattle.check_phases.specs.Merging.{made_at}
use Rattle.check_phases.specs.declared.merging.Sources.{Sources}
use Rattle.check_phases.proofs.Lists.{place_at, value_at}
use Rattle.recheck_merging.specs.Plans.{IsPlan, numbers_at, edges_at}
use Rattle.recheck_merging.specs.Merging.{outside_by}
use Rattle.recheck_merging.specs.declared.planning.MergePlan.{MergePlan}
use Rattle.recheck_merging.proofs.Among.{all_low}
use Rattle.recheck_merging.proofs.Mapped.{mapped_more, mapped_from, all_has, has_all}

flat_last : {A X : Type 0} (f : A → List X) (xs : List A) (y : A) → flat_map f (xs ++ y ∷ []) ≡ flat_map f xs ++ f y
flat_last f [] y = append-nil (f y)
flat_last {A} {X} f (x ∷ xs) y = ap (λ (l : List X). f x ++ l) (flat_last f xs y) ∙ sym (append_assoc (f x) (flat_map f xs) (f y))

-- the edges of a place lead to modules
pub edges_low : (s : Sources) (p : MergePlan) (i n : ℕ) (ys : List ℕ) → IsPlan s p → n ≡ length s.root.modules → i < length p.edges.items → ys ≡ get_or p.edges.items i ys → All (λ y. y < n) ys
edges_low s p i n ys plan many low is =
    subst (λ (l : List ℕ). All (λ y. y < n) l) (sym is) (All-get_or (λ (l : List ℕ). All (λ y. y < n) l) p.edges.items i ys low (all_low s p.merged p.edges.items n plan.edges many))

-- the edges of one more place
pub outside_more : (s : Sources) (made : List (Option Sig)) (edges : List (List ℕ)) (places : List ℕ) (i x : ℕ) (ys : List ℕ) (old new : Rows Sig) → i < length places → x ≡ get_or places i 0 → x < length edges → ys ≡ get_or edges x ys
    → old ≡ outside_by s made (edges_at edges (take i places)) → new ≡ old ++ flat_map (made_at s made) ys → new ≡ outside_by s made (edges_at edges (take (i + 1) places))
outside_more s made edges places i x ys old new low is low_x is_ys so_far adds =
    let f : List ℕ → Rows Sig = λ zs. flat_map (made_at s made) zs in
    let g : ℕ → List ℕ = λ z. get_or edges z [] in
    let at : slice_get places i ≡ Some x = place_at places i 0 low ∙ ap Some (sym is) in
    let here : ys ≡ g x = value_at edges x ys [] (place_at edges x ys low_x ∙ ap Some (sym is_ys)) in
    adds ∙ ((λ j. so_far j ++ f (here j)) ∙ (sym (flat_last f (map g (take i places)) (g x)) ∙ ap (flat_map f) (sym (mapped_more g places i x at))))

-- the numbers of a group are those of modules, and have slots
pub group_within : (s : Sources) (p : MergePlan) (places group : List ℕ) → IsPlan s p → All (λ i. i < length p.merged) places → group ≡ numbers_at p.merged places → All (λ x. x < length s.root.modules) group
group_within s p places group plan low is = has_all (λ (x : ℕ). x < length s.root.modules) group (λ x has.
    let from = mapped_from (λ (i : ℕ). get_or p.merged i 0) places has.0 x (ap (λ (l : List ℕ). slice_get l has.0) (sym is) ∙ has.1) in
    let there = place_at p.merged from.0 0 (all_has (λ (i : ℕ). i < length p.merged) places low from.0 (has.0, from.1)) ∙ ap Some (sym from.2) in
    all_has (λ (y : ℕ). y < length s.root.modules) p.merged plan.within x (from.0, there))

pub group_low : (s : Sources) (p : MergePlan) (places group : List ℕ) (made : List (Option Sig)) → IsPlan s p → length made ≡ length s.root.modules → All (λ i. i < length p.merged) places → group ≡ numbers_at p.merged places → All (λ x. x < length made) group
group_low s p places group made plan many low is = has_all (λ (x : ℕ). x < length made) group (λ x has. let small = all_has (λ (y : ℕ). y < length s.root.modules) group (group_within s p places group plan low is) x has in omega arith)
