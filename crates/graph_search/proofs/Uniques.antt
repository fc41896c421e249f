-- Edges have one list of components, and components one list of waves.
use Rattle.std.proofs.Common.{◌≡◌, ℕ, zero, suc, ◌+◌, ◌<◌, ◌≤◌, List, slice_get, Some, ap, ◌∙◌, arith, subst}
use Rattle.graph_search.specs.Cycles.{Has}
use Rattle.graph_search.specs.Components.{StandsIn, AreComponents}
use Rattle.graph_search.specs.Waves.{AreWaves}
use Rattle.graph_search.proofs.Rising.{one_at, get_there, one_list, one_rising, same_list}

-- the first of one list is below that of the other
abbrev IsBelow : List ℕ → List ℕ → Type 0
IsBelow xs ys = (x : ℕ) × (y : ℕ) × (slice_get xs 0 ≡ Some x) × (slice_get ys 0 ≡ Some y) × (x < y)

never : (xs : List ℕ) → IsBelow xs xs → ⊥
never xs b = let same = one_at xs 0 b.0 b.1 b.2 b.3 in let less = b.4 in omega arith

not_back : (xs ys : List ℕ) → IsBelow xs ys → IsBelow ys xs → ⊥
not_back xs ys b c =
    let same = one_at xs 0 b.0 c.1 b.2 c.3 in
    let too = one_at ys 0 b.1 c.0 b.3 c.2 in
    let less = b.4 in
    let more = c.4 in
    omega arith

module _ (edges some : List (List ℕ)) (a : AreComponents edges some) where
  begins : (k : ℕ) (members : List ℕ) → slice_get some k ≡ Some members → (x : ℕ) × (slice_get members 0 ≡ Some x)
  begins k members at = get_there members 0 (a.each k members at).1

  ordered : (i j : ℕ) (xs ys : List ℕ) → i < j → slice_get some i ≡ Some xs → slice_get some j ≡ Some ys → IsBelow xs ys
  ordered i j xs ys less p q =
      let x = begins i xs p in
      let y = begins j ys q in
      (x.0, y.0, x.1, y.1, a.order i j x.0 y.0 less (xs, p, x.1) (ys, q, y.1))

-- each component of one list is one of the other
all_in : (edges some others : List (List ℕ)) → AreComponents edges some → AreComponents edges others → (k : ℕ) (members : List ℕ) → slice_get some k ≡ Some members → (j : ℕ) × (slice_get others j ≡ Some members)
all_in edges some others a b k members at =
    let x = begins edges some a k members at in
    let s : StandsIn some k x.0 = (members, at, (0, x.1)) in
    let t = b.whole x.0 (a.within k x.0 s) in
    let same : t.1.0 ≡ members = one_rising t.1.0 members (b.each t.0 t.1.0 t.1.1).0 (a.each k members at).0
    (λ y has. (
    let m = b.together t.0 x.0 y t.1 (t.1.0, t.1.1, has) in
    let w = a.whole y (b.within t.0 y (t.1.0, t.1.1, has)) in
    let equal = a.apart k w.0 x.0 y s w.1 m in
    let ours : w.1.0 ≡ members = one_at some k w.1.0 members (ap (slice_get some) equal ∙ w.1.1) at in
    subst (λ (l : List ℕ). Has l y) ours w.1.2))
    (λ y has. (
    let m = a.together k x.0 y s (members, at, has) in
    let w = b.whole y (a.within k y (members, at, has)) in
    let equal = b.apart t.0 w.0 x.0 y t.1 w.1 m in
    let ours : w.1.0 ≡ t.1.0 = one_at others t.0 w.1.0 t.1.0 (ap (slice_get others) equal ∙ w.1.1) t.1.1 in
    subst (λ (l : List ℕ). Has l y) ours w.1.2)) in
    (t.0, t.1.1 ∙ ap Some same)

pub one_components : (edges some others : List (List ℕ)) → AreComponents edges some → AreComponents edges others → some ≡ others
one_components edges some others a b = one_list IsBelow never not_back some others (ordered edges some a) (ordered edges others b) (all_in edges some others a b) (all_in edges others some b a)

-- a component is of no later wave in one list than in the other
no_later : (edges components some others : List (List ℕ)) → AreWaves edges components some → AreWaves edges components others → (w v k : ℕ) → StandsIn some w k → StandsIn others v k → w ≤ v
no_later edges components some others a b zero v k s t = omega arith
no_later edges components some others a b (suc w) v k s t =
    let up : suc w ≡ w + 1 = omega arith in
    let d = a.tight k w (subst (λ (n : ℕ). StandsIn some n k) up s) in
    let u = b.whole d.0 (a.within w d.0 d.2) in
    let h = no_later edges components some others a b w u.0 d.0 d.2 u.1 in
    let less = b.later k d.0 v u.0 d.1 t u.1 in
    omega arith

-- what is of a wave in one list is of it in the other
of_both : (edges components some others : List (List ℕ)) → AreWaves edges components some → AreWaves edges components others → (w k : ℕ) → StandsIn some w k → StandsIn others w k
of_both edges components some others a b w k s =
    let t = b.whole k (a.within w k s) in
    let up = no_later edges components some others a b w t.0 k s t.1 in
    let down = no_later edges components others some b a t.0 w k t.1 s in
    let same : t.0 ≡ w = omega arith in
    subst (λ (n : ℕ). StandsIn others n k) same t.1

same_wave : (edges components some others : List (List ℕ)) → AreWaves edges components some → AreWaves edges components others → (w : ℕ) (ks : List ℕ) → slice_get some w ≡ Some ks → slice_get others w ≡ Some ks
same_wave edges components some others a b w ks at =
    let k = get_there ks 0 (a.each w ks at).1 in
    let t = of_both edges components some others a b w k.0 (ks, at, (0, k.1)) in
    let same : t.0 ≡ ks = one_rising t.0 ks (b.each w t.0 t.1).0 (a.each w ks at).0
    (λ y has. (
    let s = of_both edges components others some b a w y (t.0, t.1, has) in
    let ours : s.0 ≡ ks = one_at some w s.0 ks s.1 at in
    subst (λ (l : List ℕ). Has l y) ours s.2))
    (λ y has. (
    let s = of_both edges components some others a b w y (ks, at, has) in
    let ours : s.0 ≡ t.0 = one_at others w s.0 t.0 s.1 t.1 in
    subst (λ (l : List ℕ). Has l y) ours s.2)) in
    t.1 ∙ ap Some same

pub one_waves : (edges components some others : List (List ℕ)) → AreWaves edges components some → AreWaves edges components others → some ≡ others
one_waves edges components some others a b = same_list some others (same_wave edges components some others a b) (same_wave edges components others some b a)
