-- The writer meets the lanes one after the other.
use Rattle.std.proofs.Common.{◌≡◌, ℕ, ◌+◌, ◌<◌, ◌≤◌, List, [], ◌∷◌, ◌++◌, length, set, get_or, slice_get, sym, ap, ◌∙◌, subst, ⊎_elim, arith, Some, length-set, get_or-set_same, get_or-set_other}
use mathlib.Core.Logic.{dite}
use native.Mathlib.Decide.{ℕ_discrete}
use Rattle.heap_core.specs.declared.traits.Program.{Ghosts}
use Rattle.entity_heap.specs.declared.board.Entry.{Entry}
use Rattle.entity_heap.specs.declared.board.Plan.{Plan}
use Rattle.entity_heap.specs.declared.heap.Heap.{Heap}
use Rattle.entity_heap.specs.declared.heap.Lane.{Lane}
use Rattle.entity_heap.specs.Rule.{AreStates}
use Rattle.entity_heap.specs.Plans.{first_visit}
use Rattle.entity_heap.specs.Lanes.{visit_in, IsLaneOf, AreNew, AreLanesOf}
use Rattle.entity_heap.proofs.Lists.{same_some, get_short, at_more, set-get_here, set-get_else}
use Rattle.heap_core.proofs.Lists.{put_here}

-- the lanes below k were met, and now k
pub met_more : (ms : List ℕ) (k v : ℕ) → k < length ms → ((n : ℕ) → n < k → v ≤ get_or ms n 0) → (n : ℕ) → n < k + 1 → v ≤ get_or (set ms k v) n 0
met_more ms k v inside old n h = dite (ℕ_discrete n k)
    (λ (i : n ≡ k). let s = get_or-set_same ms k v 0 inside in let p = ap (λ (j : ℕ). get_or (set ms k v) j 0) i in omega arith)
    (λ ne. let a = get_or-set_other ms k n v 0 ne in let o = old n (omega arith) in omega arith)

module _ {P : Type 0} where
  -- what is recorded are states of every plan with the same version and states
  pub states_same : (q p : Plan P) (xs : List (Entry P)) → q.version ≡ p.version → q.history ≡ p.history → AreStates q xs → AreStates p xs
  states_same q p xs v h all = λ i x at. let s = all i x at in (subst (λ (k : ℕ). x.version ≤ k) v s.0, ap (λ (hs : List (List P)). slice_get hs x.version) (sym h) ∙ s.1)

module _ {P : Type 0} {G : Ghosts P} where
  -- the lanes below k were met
  abbrev pub AreMetTo : ℕ → Plan P → List (Lane P G) → List (Lane P G) → Type 0
  AreMetTo k q old new = (n : ℕ) (l : Lane P G) → n < k → slice_get old n ≡ Some l → (l' : Lane P G) × (slice_get new n ≡ Some l') × (visit_in l' ≡ record (visit_in l) { floor = q.version }) × AreStates q (visit_in l).entries

  pub met_next : (k : ℕ) (q : Plan P) (old now : List (Lane P G)) (lane new : Lane P G) → AreMetTo k q old now → ((n : ℕ) → k ≤ n → slice_get now n ≡ slice_get old n) → slice_get now k ≡ Some lane
      → visit_in new ≡ record (visit_in lane) { floor = q.version } → AreStates q (visit_in lane).entries → AreMetTo (k + 1) q old (set now k new)
  met_next k q old now lane new met rest here floor states = λ n l less at. dite (ℕ_discrete n k)
      (λ (i : n ≡ k). let same : lane ≡ l = same_some (slice_get now k) lane l here (rest k (omega arith) ∙ ap (slice_get old) (sym i) ∙ at) in
      (new, ap (slice_get (set now k new)) i ∙ put_here now k new (get_short now k lane here), floor ∙ ap (λ (z : Lane P G). record (visit_in z) { floor = q.version }) same, subst (λ (z : Lane P G). AreStates q (visit_in z).entries) same states))
      (λ ne. let o = met n l (omega arith) at in (o.0, set-get_else now k n new ne ∙ o.1, o.2, o.3))

  pub rest_next : (k : ℕ) (old now : List (Lane P G)) (new : Lane P G) → ((n : ℕ) → k ≤ n → slice_get now n ≡ slice_get old n) → (n : ℕ) → k + 1 ≤ n → slice_get (set now k new) n ≡ slice_get old n
  rest_next k old now new rest n h = set-get_else now k n new (λ i. omega arith) ∙ rest n (omega arith)

  pub new_more : (h : Heap P) (m : ℕ) (xs ys : List (Lane P G)) (l : Lane P G) → AreNew h m xs → IsLaneOf h l → visit_in l ≡ first_visit m (length xs) → ys ≡ xs ++ l ∷ [] → AreNew h m ys
  new_more h m xs ys l all from visit is = λ k x at. ⊎_elim (all k x)
      (λ (t : (k ≡ length xs) × (l ≡ x)). subst (λ (y : Lane P G). IsLaneOf h y × (visit_in y ≡ first_visit m k)) t.1 (from, visit ∙ ap (first_visit m) (sym t.0)))
      (at_more xs l x k (ap (λ (zs : List (Lane P G)). slice_get zs k) (sym is) ∙ at))

  pub lanes_set : (h : Heap P) (xs : List (Lane P G)) (k : ℕ) (l : Lane P G) → AreLanesOf h xs → IsLaneOf h l → (visit_in l).number ≡ k → AreLanesOf h (set xs k l)
  lanes_set h xs k l all from number = λ n x at. dite (ℕ_discrete n k)
      (λ (i : n ≡ k). subst (λ (y : Lane P G). IsLaneOf h y × ((visit_in y).number ≡ n)) (set-get_here xs k l x (ap (slice_get (set xs k l)) (sym i) ∙ at)) (from, number ∙ sym i))
      (λ ne. all n x (sym (set-get_else xs k n l ne) ∙ at))
