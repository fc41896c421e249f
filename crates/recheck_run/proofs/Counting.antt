-- How many there can be.
use Rattle.std.proofs.Common.{◌≡◌, ℕ, zero, suc, ◌+◌, ◌<◌, ◌≤◌, List, [], ◌∷◌, length, slice_get, Some, None, refl, sym, ap, ◌∙◌, subst, inl, inr, arith}
use Rattle.std.proofs.lemmas.Bool.{cases_lt}
use Rattle.std.proofs.lemmas.Map.Steps.{length-le_from_distinct_below}
use Rattle.flow_base.specs.Program.{Bytes, Program, IsRising, paths_of}
use Rattle.graph_search.specs.Cycles.{Has, here}
use Rattle.graph_search.specs.Reach as reach
use Rattle.graph_search.specs.Components.{StandsIn}
use Rattle.graph_search.proofs.Lists.{get_small}
use Rattle.graph_search.proofs.Rising.{get_there}
use Rattle.merged_signatures.specs.Chains.{View}
use Rattle.recheck_checking.specs.affected_law.specs.Affected.{IsPathOf}
use Rattle.recheck_reach.specs.affected_sizes.specs.Paths.{HasPath, ArePaths}
use Rattle.recheck_reach.specs.affected_sizes.specs.Polls.{AreWavesAmong, AreBatches}
use Rattle.recheck_reach.specs.path_numbers.proofs.Ways.{one_place, has_path_of}
use Rattle.recheck_reach.specs.check_phases.proofs.Counts.{Once, once_distinct, any_has}

-- ---- each of some numbers has one of its own below a bound

module _ (R : ℕ → ℕ → Type 0) (one : (i j k : ℕ) → R i k → R j k → i ≡ j) where
  -- the ones of the first numbers
  record Chosen (m : ℕ) (ks : List ℕ) : Type 0 where
    many : length ks ≡ m
    once : Once ks
    of : (k : ℕ) → Has ks k → (i : ℕ) × (i < m) × R i k

  chosen : (m : ℕ) → ((i : ℕ) → i < m → (k : ℕ) × R i k) → (ks : List ℕ) × Chosen m ks
  chosen zero each = ([], record { many = refl; once = tt; of = λ k has. absurd (let z : None ≡ Some k = has.1 in cc) })
  chosen (suc m) each =
      let rest = chosen m (λ i low. each i (omega (arith, low))) in
      let first = each m (omega arith) in (
        first.0 ∷ rest.0,
        record {
          many = ap suc rest.1.many;
          once = ((λ has. let r = rest.1.of first.0 has in let e : r.0 ≡ m = one r.0 m first.0 r.2 first.1 in let low = r.1 in omega (arith, e, low)), rest.1.once);
          of = later m first.0 first.1 rest.0 rest.1.of;
        },
      )
    where
      later : (m k : ℕ) → R m k → (ks : List ℕ) → ((k : ℕ) → Has ks k → (i : ℕ) × (i < m) × R i k) → (l : ℕ) → Has (k ∷ ks) l → (i : ℕ) × (i < suc m) × R i l
      later m k is ks of l (zero, at) = (m, omega arith, subst (R m) (let z : Some k ≡ Some l = at in let e : k ≡ l = cc in e) is)
      later m k is ks of l (suc i, at) = (let r = of l (i, at) in (r.0, (let low = r.1 in omega (arith, low)), r.2))

  pub no_more : (m n : ℕ) → ((i : ℕ) → i < m → (k : ℕ) × R i k) → ((i k : ℕ) → R i k → k < n) → m ≤ n
  no_more m n each below =
      let c = chosen m each in
      let most = length-le_from_distinct_below c.0 n (once_distinct c.0 c.1.once) (λ k any. let r = c.1.of k (any_has c.0 k any) in below r.0 k r.2) in
      let many = c.1.many in
      omega (arith, most, many)

-- ---- paths, waves, batches

abbrev Both : List Bytes → List Bytes → ℕ → ℕ → Type 0
Both xs ys i k = (p : Bytes) × (slice_get xs i ≡ Some p) × (slice_get ys k ≡ Some p)

-- rising paths that stand among others are no more than these
pub few_paths : (xs ys : List Bytes) → IsRising xs → ((p : Bytes) → HasPath xs p → HasPath ys p) → length xs ≤ length ys
few_paths xs ys rising inside = no_more (Both xs ys) one (length xs) (length ys) (λ i low. let p = get_there xs i low in let at = inside p.0 (i, p.1) in (at.0, (p.0, p.1, at.1))) (λ i k both. get_small ys k both.0 both.2)
  where
    one : (i j k : ℕ) → Both xs ys i k → Both xs ys j k → i ≡ j
    one i j k a b = one_place xs rising i j a.0 a.1 (b.1 ∙ (sym b.2 ∙ a.2))

pub few_of : (program : Program) (Holds : Bytes → Type 0) (paths : List Bytes) → ArePaths Holds paths → ((p : Bytes) → Holds p → IsPathOf program p) → length paths ≤ length (paths_of program)
few_of program Holds paths are inside = few_paths paths (paths_of program) are.rising (λ p has. has_path_of program p (inside p (are.sound p has)))

-- there are no more waves than paths
pub few_waves : (view : View) (paths : List Bytes) (waves : List (List ℕ)) → AreWavesAmong view paths waves → length waves ≤ length paths
few_waves view paths waves are =
    let a = no_more (StandsIn waves) (λ i j k p q. are.are_waves.once i j k p q) (length waves) (length are.components)
    (λ w low. let ks = get_there waves w low in let some = are.are_waves.each w ks.0 ks.1 in let k = get_there ks.0 0 some.1 in (k.0, (ks.0, ks.1, (0, k.1)))) (λ w k stands. are.are_waves.within w k stands) in
    let b = no_more (StandsIn are.components) (λ i j x p q. are.are_components.apart i j x x p q (here, here)) (length are.components) (length are.edges)
    (λ k low. let xs = get_there are.components k low in let some = are.are_components.each k xs.0 xs.1 in let x = get_there xs.0 0 some.1 in (x.0, (xs.0, xs.1, (0, x.1)))) (λ k x stands. are.are_components.within k x stands) in
    let c = are.are_imports.len in
    omega (arith, a, b, c)

-- rising numbers below a bound
pub few_numbers : (xs : List ℕ) (n : ℕ) → reach.IsRising xs → ((i x : ℕ) → slice_get xs i ≡ Some x → x < n) → length xs ≤ n
few_numbers xs n rising below = no_more (λ i k. slice_get xs i ≡ Some k) one (length xs) n (λ i low. get_there xs i low) (λ i k at. below i k at)
  where
    one : (i j k : ℕ) → slice_get xs i ≡ Some k → slice_get xs j ≡ Some k → i ≡ j
    one i j k a b = elim (cases_lt i j) [
      | inl less ↦ absurd (let bad : k < k = rising i j k k less a b in omega (arith, bad))
      | inr more ↦ elim (cases_lt j i) [ inl less ↦ absurd (let bad : k < k = rising j i k k less b a in omega (arith, bad)) | inr same ↦ omega (arith, more, same) ]
    ]

pub few_batches : (count batches : ℕ) → AreBatches count batches → batches ≤ count + 1
few_batches count batches are = let few = are.few in omega (arith, few)
