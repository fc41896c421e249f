-- The numbers of the staged entities, and the payloads that pend.
use Rattle.std.proofs.Common.{◌≡◌, ◌≢◌, ℕ, zero, suc, ◌+◌, Bool, true, false, cond, List, [], ◌∷◌, length, set, replicate, slice_get, refl, ap, ◌∙◌, ⊎_elim, arith, Option, Some, None, length-set}
use mathlib.Core.Logic.{dite}
use native.Mathlib.Decide.{ℕ_discrete}
use Rattle.heap_core.specs.Meaning.{none_of, stamped, names}
use Rattle.heap_core.specs.PlainLaws.{none_some}
use Rattle.heap_world.specs.World.{replaced, renewed}
use Rattle.heap_world.specs.Stands.{numbers, pending_of}
use Rattle.heap_core.proofs.Lists.{at_put}
use Rattle.heap_core.proofs.Names.{names-skip, names-first, names-later}

-- a number that is listed is that of a staged entity
pub numbers_from : (k : ℕ) (bs : List Bool) (e : ℕ) → names (numbers k bs) e ≡ true → (i : ℕ) × (e ≡ k + i) × (slice_get bs i ≡ Some true)
numbers_from k [] e h = absurd (let z : false ≡ true = h in cc)
numbers_from k (true ∷ bs) e h = dite (ℕ_discrete e k) (λ (same : e ≡ k). (0, (omega arith), refl))
    (λ (ne : e ≢ k). let r = numbers_from (k + 1) bs e (names-skip k (numbers (k + 1) bs) e ne h) in let is : e ≡ k + 1 + r.0 = r.1 in (r.0 + 1, (omega arith), next bs r.0 r.2))
  where
    next : (bs : List Bool) (i : ℕ) → slice_get bs i ≡ Some true → slice_get (true ∷ bs) (i + 1) ≡ Some true
    next bs i at = let n : i + 1 ≡ suc i = omega arith in rw n at
numbers_from k (false ∷ bs) e h = let r = numbers_from (k + 1) bs e h in let is : e ≡ k + 1 + r.0 = r.1 in (r.0 + 1, (omega arith), next bs r.0 r.2)
  where
    next : (bs : List Bool) (i : ℕ) → slice_get bs i ≡ Some true → slice_get (false ∷ bs) (i + 1) ≡ Some true
    next bs i at = let n : i + 1 ≡ suc i = omega arith in rw n at

-- and each staged entity is listed
pub numbers_has : (k : ℕ) (bs : List Bool) (i e : ℕ) → e ≡ k + i → slice_get bs i ≡ Some true → names (numbers k bs) e ≡ true
numbers_has k [] i e is h = absurd (none_some true h)
numbers_has k (true ∷ bs) zero e is h = let same : e ≡ k = omega arith in ap (names (k ∷ numbers (k + 1) bs)) same ∙ names-first k (numbers (k + 1) bs)
numbers_has k (false ∷ bs) zero e is h = absurd (let z : Some false ≡ Some true = h in cc)
numbers_has k (true ∷ bs) (suc i) e is h = names-later k (numbers (k + 1) bs) e (numbers_has (k + 1) bs i e (omega arith) h)
numbers_has k (false ∷ bs) (suc i) e is h = numbers_has (k + 1) bs i e (omega arith) h

-- no number is listed twice
abbrev pub Apart : List ℕ → Type 0
Apart [] = Unit {0}
Apart (k ∷ ks) = ((e : ℕ) → names ks e ≡ true → e ≢ k) × Apart ks

pub numbers_apart : (k : ℕ) (bs : List Bool) → Apart (numbers k bs)
numbers_apart k [] = tt
numbers_apart k (true ∷ bs) = ((λ e h same. let r = numbers_from (k + 1) bs e h in let is : e ≡ k + 1 + r.0 = r.1 in let z : e ≡ k = same in absurd (omega arith)), numbers_apart (k + 1) bs)
numbers_apart k (false ∷ bs) = numbers_apart (k + 1) bs

module _ {P : Type 0} where
  pub length-pending_of : (bs : List Bool) (xs : List P) → length bs ≡ length xs → length (pending_of bs xs) ≡ length xs
  length-pending_of [] [] s = refl
  length-pending_of [] (x ∷ xs) s = absurd (omega arith)
  length-pending_of (b ∷ bs) [] s = absurd (omega arith)
  length-pending_of (b ∷ bs) (x ∷ xs) s = ap suc (length-pending_of bs xs (omega arith))

  -- a payload pends where an entity is staged
  pub pending_of-staged : (bs : List Bool) (xs : List P) (e : ℕ) (x : P) → slice_get (pending_of bs xs) e ≡ Some (Some x) → slice_get bs e ≡ Some true
  pending_of-staged [] xs e x h = absurd (none_some (Some x) h)
  pending_of-staged (b ∷ bs) [] e x h = absurd (none_some (Some x) h)
  pending_of-staged (true ∷ bs) (y ∷ ys) zero x h = refl
  pending_of-staged (false ∷ bs) (y ∷ ys) zero x h = absurd (let z : Some None ≡ Some (Some x) = h in cc)
  pending_of-staged (b ∷ bs) (y ∷ ys) (suc e) x h = pending_of-staged bs ys e x h

  pub staged-pending_of : (bs : List Bool) (xs : List P) (e : ℕ) → length bs ≡ length xs → slice_get bs e ≡ Some true → (x : P) × (slice_get (pending_of bs xs) e ≡ Some (Some x))
  staged-pending_of [] xs e s h = absurd (none_some true h)
  staged-pending_of (b ∷ bs) [] e s h = absurd (omega arith)
  staged-pending_of (true ∷ bs) (y ∷ ys) zero s h = (y, refl)
  staged-pending_of (false ∷ bs) (y ∷ ys) zero s h = absurd (let z : Some false ≡ Some true = h in cc)
  staged-pending_of (b ∷ bs) (y ∷ ys) (suc e) s h = staged-pending_of bs ys e (omega arith) h

  pub pending_of-set : (bs : List Bool) (xs : List P) (e : ℕ) (x : P) → length bs ≡ length xs → set (pending_of bs xs) e (Some x) ≡ pending_of (set bs e true) (set xs e x)
  pending_of-set [] [] e x s = refl
  pending_of-set [] (y ∷ ys) e x s = absurd (omega arith)
  pending_of-set (b ∷ bs) [] e x s = absurd (omega arith)
  pending_of-set (b ∷ bs) (y ∷ ys) zero x s = refl
  pending_of-set (b ∷ bs) (y ∷ ys) (suc e) x s = ap (λ (l : List (Option P)). cond b (Some y) None ∷ l) (pending_of-set bs ys e x (omega arith))

  pub pending_of-none : (bs : List Bool) (xs : List P) → length bs ≡ length xs → pending_of (none_of bs) xs ≡ replicate (length xs) None
  pending_of-none [] [] s = refl
  pending_of-none [] (y ∷ ys) s = absurd (omega arith)
  pending_of-none (b ∷ bs) [] s = absurd (omega arith)
  pending_of-none (b ∷ bs) (y ∷ ys) s = ap (λ (l : List (Option P)). None ∷ l) (pending_of-none bs ys (omega arith))

  -- the pending payloads in place make the latest state
  pub replaced_latest : (cs xs : List P) (bs : List Bool) → length xs ≡ length cs → length bs ≡ length cs → ((e : ℕ) → slice_get bs e ≡ Some false → slice_get xs e ≡ slice_get cs e) → replaced cs (pending_of bs xs) ≡ xs
  replaced_latest [] [] bs s t same = refl
  replaced_latest [] (x ∷ xs) bs s t same = absurd (omega arith)
  replaced_latest (c ∷ cs) [] bs s t same = absurd (omega arith)
  replaced_latest (c ∷ cs) (x ∷ xs) [] s t same = absurd (omega arith)
  replaced_latest (c ∷ cs) (x ∷ xs) (true ∷ bs) s t same = ap (λ (l : List P). x ∷ l) (replaced_latest cs xs bs (omega arith) (omega arith) (λ e h. same (suc e) h))
  replaced_latest (c ∷ cs) (x ∷ xs) (false ∷ bs) s t same = let first : c ≡ x = (let z : Some x ≡ Some c = same 0 refl in cc) in λ j. first j ∷ replaced_latest cs xs bs (omega arith) (omega arith) (λ e h. same (suc e) h) j

  pub renewed_stamped : (v : ℕ) (bs : List Bool) (xs : List P) (ns : List ℕ) → length bs ≡ length xs → length ns ≡ length xs → renewed v (pending_of bs xs) ns ≡ stamped v bs ns
  renewed_stamped v [] [] ns s t = refl
  renewed_stamped v [] (x ∷ xs) ns s t = absurd (omega arith)
  renewed_stamped v (b ∷ bs) [] ns s t = absurd (omega arith)
  renewed_stamped v (b ∷ bs) (x ∷ xs) [] s t = absurd (omega arith)
  renewed_stamped v (true ∷ bs) (x ∷ xs) (n ∷ ns) s t = ap (λ (l : List ℕ). v ∷ l) (renewed_stamped v bs xs ns (omega arith) (omega arith))
  renewed_stamped v (false ∷ bs) (x ∷ xs) (n ∷ ns) s t = ap (λ (l : List ℕ). n ∷ l) (renewed_stamped v bs xs ns (omega arith) (omega arith))

module _ {P : Type 0} where
  -- none of these pends
  abbrev pub forgotten : List ℕ → List (Option P) → List (Option P)
  forgotten [] ps = ps
  forgotten (k ∷ ks) ps = forgotten ks (set ps k None)

  pub length-forgotten : (ks : List ℕ) (ps : List (Option P)) → length (forgotten ks ps) ≡ length ps
  length-forgotten [] ps = refl
  length-forgotten (k ∷ ks) ps = length-forgotten ks (set ps k None) ∙ length-set ps k None

  pub none_forgotten : (ks : List ℕ) (ps : List (Option P)) → ((e : ℕ) (x : P) → slice_get ps e ≡ Some (Some x) → names ks e ≡ true) → (e : ℕ) (x : P) → slice_get (forgotten ks ps) e ≢ Some (Some x)
  none_forgotten [] ps all e x h = let z : false ≡ true = all e x h in cc
  none_forgotten (k ∷ ks) ps all e x h = none_forgotten ks (set ps k None)
      (λ i y at. ⊎_elim (λ t. absurd (let z : None ≡ Some y = t.1 in cc)) (λ t. names-skip k ks i t.0 (all i y t.1)) (at_put ps k i None (Some y) at)) e x h

  pub all_none : (ps : List (Option P)) → ((e : ℕ) (x : P) → slice_get ps e ≢ Some (Some x)) → ps ≡ replicate (length ps) None
  all_none [] none = refl
  all_none (None ∷ ps) none = ap (λ (l : List (Option P)). None ∷ l) (all_none ps (λ e x. none (suc e) x))
  all_none (Some p ∷ ps) none = absurd (none 0 p refl)
