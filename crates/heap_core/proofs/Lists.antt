-- What stands where in a list.
use Rattle.std.proofs.Common.{◌≡◌, ◌≢◌, ◌⊎◌, ℕ, zero, suc, ◌+◌, ◌<◌, ◌≤◌, List, [], ◌∷◌, ◌++◌, length, set, get_or, slice_get, take, drop, refl, sym, ap, inl, inr, ⊎_elim, arith, Some}
use Rattle.heap_core.specs.PlainLaws.{none_some}

module _ {A : Type 0} where
  pub get_there : (xs : List A) (i : ℕ) → i < length xs → (x : A) × (slice_get xs i ≡ Some x)
  get_there [] i h = absurd (omega arith)
  get_there (x ∷ xs) zero h = (x, refl)
  get_there (x ∷ xs) (suc i) h = get_there xs i (omega arith)

  pub get_index : (xs : List A) (e : ℕ) (x : A) → e < length xs → x ≡ get_or xs e x → slice_get xs e ≡ Some x
  get_index [] e x h is = absurd (omega arith)
  get_index (y ∷ ys) zero x h is = ap Some (sym is)
  get_index (y ∷ ys) (suc e) x h is = get_index ys e x (omega arith) is

  pub set_same : (xs : List A) (e : ℕ) (x : A) → slice_get xs e ≡ Some x → set xs e x ≡ xs
  set_same [] e x h = refl
  set_same (y ∷ ys) zero x h = ap (λ (z : A). z ∷ ys) (sym (let k : Some y ≡ Some x = h in cc))
  set_same (y ∷ ys) (suc e) x h = ap (λ (z : List A). y ∷ z) (set_same ys e x h)

  -- an entry of a list in which one place was set
  pub at_put : (xs : List A) (i n : ℕ) (a b : A) → slice_get (set xs i a) n ≡ Some b → ((n ≡ i) × (a ≡ b)) ⊎ ((n ≢ i) × (slice_get xs n ≡ Some b))
  at_put [] i n a b h = absurd (none_some b h)
  at_put (x ∷ xs) zero zero a b h = inl (refl, (let z : Some a ≡ Some b = h in cc))
  at_put (x ∷ xs) zero (suc n) a b h = inr ((λ e. omega arith), h)
  at_put (x ∷ xs) (suc i) zero a b h = inr ((λ e. omega arith), h)
  at_put (x ∷ xs) (suc i) (suc n) a b h = ⊎_elim (λ t. inl (ap suc t.0, t.1)) (λ t. let ne = t.0 in inr ((λ e. ne (omega arith)), t.1)) (at_put xs i n a b h)

  -- from place i on, a list is what stands there and then the rest
  pub drop_step : (xs : List A) (i : ℕ) (x : A) → slice_get xs i ≡ Some x → drop i xs ≡ x ∷ drop (i + 1) xs
  drop_step [] i x h = absurd (none_some x h)
  drop_step (y ∷ ys) zero x h = ap (λ (z : A). z ∷ ys) (let k : Some y ≡ Some x = h in cc)
  drop_step (y ∷ ys) (suc i) x h = let n : suc i + 1 ≡ suc (i + 1) = omega arith in rw n (drop_step ys i x h)

  pub drop_past : (xs : List A) (i : ℕ) → length xs ≤ i → drop i xs ≡ []
  drop_past [] zero h = refl
  drop_past [] (suc i) h = refl
  drop_past (y ∷ ys) zero h = absurd (omega arith)
  drop_past (y ∷ ys) (suc i) h = drop_past ys i (omega arith)

  -- an entry of a list that has one more
  pub at_more : (xs : List A) (y x : A) (n : ℕ) → slice_get (xs ++ y ∷ []) n ≡ Some x → ((n < length xs) × (slice_get xs n ≡ Some x)) ⊎ ((n ≡ length xs) × (y ≡ x))
  at_more [] y x zero h = inr (refl, (let z : Some y ≡ Some x = h in cc))
  at_more [] y x (suc n) h = absurd (none_some x h)
  at_more (z ∷ zs) y x zero h = inl (omega arith, h)
  at_more (z ∷ zs) y x (suc n) h = ⊎_elim (λ t. inl (let b = t.0 in omega arith, t.1)) (λ t. inr (ap suc t.0, t.1)) (at_more zs y x n h)

  pub put_here : (xs : List A) (i : ℕ) (a : A) → i < length xs → slice_get (set xs i a) i ≡ Some a
  put_here [] i a h = absurd (omega arith)
  put_here (x ∷ xs) zero a h = refl
  put_here (x ∷ xs) (suc i) a h = put_here xs i a (omega arith)

  pub put_else : (xs : List A) (i n : ℕ) (a : A) → n ≢ i → slice_get (set xs i a) n ≡ slice_get xs n
  put_else [] i n a ne = refl
  put_else (x ∷ xs) zero zero a ne = absurd (ne refl)
  put_else (x ∷ xs) zero (suc n) a ne = refl
  put_else (x ∷ xs) (suc i) zero a ne = refl
  put_else (x ∷ xs) (suc i) (suc n) a ne = put_else xs i n a (λ e. ne (ap suc e))

  pub take_all : (xs : List A) (i : ℕ) → length xs ≤ i → take i xs ++ [] ≡ xs
  take_all [] zero h = refl
  take_all [] (suc i) h = refl
  take_all (y ∷ ys) zero h = absurd (omega arith)
  take_all (y ∷ ys) (suc i) h = ap (λ (l : List A). y ∷ l) (take_all ys i (omega arith))
