-- The places fill up.
use Rattle.std.proofs.Common.{◌≡◌, ◌≢◌, ◌⊎◌, inl, inr, ⊎_elim, ℕ, zero, suc, ◌+◌, ◌-◌, ◌<◌, ◌≤◌, List, [], ◌∷◌, ◌++◌, length, set, slice_get, sum_by, Option, Some, None, refl, sym, ap, ◌∙◌, subst, arith, append_assoc, Result, Ok, Err}
use Rattle.std.specs.Prelude.{IfOk}
use Rattle.std.specs.List.{Contains}
use Rattle.std.proofs.lemmas.List.Sums.{sum_by-cons, sum_by-append}
use Rattle.std.proofs.lemmas.List.Elements.{Contains-append_right}
use Rattle.number_draws.specs.Below.{below}
use Rattle.number_draws.specs.Places.{somes, IsPlaced, AreThere}

-- 1 at one number
abbrev ind : ℕ → ℕ → ℕ
ind n i = 1 - ((n - i) + (i - n))

-- 1 from a number on
abbrev high : ℕ → ℕ → ℕ
high end i = 1 - (end - i)

more_or_here : (n c s k : ℕ) → k ≡ ind n c → n < suc c → (n < c → 1 ≤ s) → 1 ≤ s + k
more_or_here n c s zero e within then = let rest = then (omega arith) in omega arith
more_or_here n c s (suc k) e within then = omega arith

below_has : (count n : ℕ) → n < count → 1 ≤ sum_by (ind n) (below count)
below_has zero n within = absurd (omega arith)
below_has (suc c) n within =
    let next = more_or_here n c (sum_by (ind n) (below c)) (ind n c) refl within (below_has c n) in
    omega (arith, sum_by-append (ind n) (below c) (c ∷ []), sum_by-cons (ind n) c [])

below_low : (end count : ℕ) → count ≤ end → sum_by (high end) (below count) ≡ 0
below_low end zero within = refl
below_low end (suc c) within = let rest = below_low end c (omega arith) in omega (arith, sum_by-append (high end) (below c) (c ∷ []), sum_by-cons (high end) c [])

module _ {A : Type 0} where
  get_same : (xs : List A) (m : ℕ) (y : A) → m < length xs → slice_get (set xs m y) m ≡ Some y
  get_same [] m y within = absurd (omega arith)
  get_same (x ∷ xs) zero y within = refl
  get_same (x ∷ xs) (suc m) y within = get_same xs m y (omega arith)

  get_other : (xs : List A) (m n : ℕ) (y : A) → n ≢ m → slice_get (set xs m y) n ≡ slice_get xs n
  get_other [] m n y apart = refl
  get_other (x ∷ xs) zero zero y apart = absurd (apart refl)
  get_other (x ∷ xs) zero (suc n) y apart = refl
  get_other (x ∷ xs) (suc m) zero y apart = refl
  get_other (x ∷ xs) (suc m) (suc n) y apart = get_other xs m n y (λ e. apart (ap suc e))

  pub nothing_after : (xs : List A) → xs ≡ xs ++ []
  nothing_after [] = refl
  nothing_after (x ∷ xs) = ap (λ (l : List A). x ∷ l) (nothing_after xs)

  long_set : (xs : List A) (m : ℕ) (y : A) → length (set xs m y) ≡ length xs
  long_set [] m y = refl
  long_set (x ∷ xs) zero y = refl
  long_set (x ∷ xs) (suc m) y = let rest = long_set xs m y in omega arith

module _ {X : Type 0} where
  -- an answer of this number stands at its place
  abbrev Filled : List (ℕ × X) → List (Option X) → ℕ → Type 0
  Filled kept slots n = (x : X) × (slice_get slots n ≡ Some (Some x)) × Contains kept (n, x)

  -- some answers are placed, and the others are left
  pub record IsFilling (kept left : List (ℕ × X)) (slots : List (Option X)) (count : ℕ) : Type 0 where
    pub gone : List (ℕ × X)
    pub whole : kept ≡ left ++ gone
    pub long : length slots ≡ count
    pub each : (n : ℕ) → n < count → (sum_by (λ (r : ℕ × X). ind n r.0) gone ≡ 0) ⊎ Filled kept slots n

  pub begun : (kept : List (ℕ × X)) (slots : List (Option X)) (count : ℕ) → length slots ≡ count → IsFilling kept kept slots count
  begun kept slots count long = record { gone = []; whole = nothing_after kept; long = long; each = λ n within. inl refl }

  module _ (kept left left' : List (ℕ × X)) (slots : List (Option X)) (count m : ℕ) (a : X) (numbered : (h : ℕ → ℕ) → sum_by (λ (r : ℕ × X). h r.0) kept ≡ sum_by h (below count)) (filling : IsFilling kept left slots count)
      (popped : left ≡ left' ++ (m, a) ∷ []) where
    of_high : ℕ × X → ℕ
    of_high r = high count r.0

    pub in_bounds : m < count
    in_bounds =
        let f : ℕ × X → ℕ = λ r. high count r.0 in
        let none : sum_by f kept ≡ 0 = numbered (high count) ∙ below_low count count (omega arith) in
        let w : sum_by f kept ≡ sum_by f (left ++ filling.gone) = ap (λ (l : List (ℕ × X)). sum_by f l) filling.whole in
        let p : sum_by f left ≡ sum_by f (left' ++ (m, a) ∷ []) = ap (λ (l : List (ℕ × X)). sum_by f l) popped in
        let one : sum_by f ((m, a) ∷ []) ≡ 1 - (count - m) = omega (arith, sum_by-cons f (m, a) []) in
        omega (arith, sum_by-append f left filling.gone, sum_by-append f left' ((m, a) ∷ []))

    gone' : List (ℕ × X)
    gone' = (m, a) ∷ filling.gone

    whole' : kept ≡ left' ++ (m, a) ∷ filling.gone
    whole' = filling.whole ∙ (ap (λ (l : List (ℕ × X)). l ++ filling.gone) popped ∙ append_assoc left' ((m, a) ∷ []) filling.gone)

    there : Contains kept (m, a)
    there = subst (λ (l : List (ℕ × X)). Contains l (m, a)) (sym whole') (Contains-append_right left' ((m, a) ∷ filling.gone) (m, a) (0, omega arith, refl))

    at_place : (n k : ℕ) → k ≡ ind n m → n < count → (sum_by (λ (r : ℕ × X). ind n r.0) ((m, a) ∷ filling.gone) ≡ 0) ⊎ Filled kept (set slots m (Some a)) n
    at_place n zero e within = ⊎_elim
        (λ (z : sum_by (λ (r : ℕ × X). ind n r.0) filling.gone ≡ 0). inl (omega (arith, sum_by-cons (λ (r : ℕ × X). ind n r.0) (m, a) filling.gone)))
        (λ (f : Filled kept slots n). inr (f.0, get_other slots m n (Some a) (λ same. absurd (omega arith)) ∙ f.1, f.2)) (filling.each n within)
    at_place n (suc k) e within = let same : m ≡ n = omega arith in
        inr (subst (λ (i : ℕ). Filled kept (set slots m (Some a)) i) same (a, get_same slots m (Some a) (let l = filling.long in let b = in_bounds in omega arith), there))

    pub filled_more : IsFilling kept left' (set slots m (Some a)) count
    filled_more = record { gone = (m, a) ∷ filling.gone; whole = whole'; long = long_set slots m (Some a) ∙ filling.long; each = λ n within. at_place n (ind n m) refl within }

  none_of : (xs : List (ℕ × X)) → length xs ≡ 0 → xs ≡ []
  none_of [] e = refl
  none_of (x ∷ xs) e = absurd (omega arith)

  pub all_filled : (kept left : List (ℕ × X)) (slots : List (Option X)) (count : ℕ) → ((h : ℕ → ℕ) → sum_by (λ (r : ℕ × X). h r.0) kept ≡ sum_by h (below count)) → IsFilling kept left slots count → length left ≡ 0 → (n : ℕ) → n < count → Filled kept slots n
  all_filled kept left slots count numbered filling done n within = ⊎_elim
      (λ (z : sum_by (λ (r : ℕ × X). ind n r.0) filling.gone ≡ 0). absurd (
      let f : ℕ × X → ℕ = λ r. ind n r.0 in
      let w : sum_by f kept ≡ sum_by f (left ++ filling.gone) = ap (λ (l : List (ℕ × X)). sum_by f l) filling.whole in
      let e : sum_by f left ≡ sum_by f [] = ap (λ (l : List (ℕ × X)). sum_by f l) (none_of left done) in
      let some = below_has count n within in
      let all = numbered (ind n) in
      omega (arith, sum_by-append f left filling.gone)))
      (λ (f : Filled kept slots n). f) (filling.each n within)

  one_value : (x y : X) → Some (Some x) ≡ Some (Some y) → x ≡ y
  one_value x y e = cc

  pub somes_joined : (xs ys : List (Option X)) → somes (xs ++ ys) ≡ somes xs ++ somes ys
  somes_joined [] ys = refl
  somes_joined (None ∷ xs) ys = somes_joined xs ys
  somes_joined (Some x ∷ xs) ys = ap (λ (l : List X). x ∷ l) (somes_joined xs ys)

  -- where all are filled
  pub all_somes : (Q : ℕ → X → Type 0) (slots : List (Option X)) → ((n : ℕ) → n < length slots → (x : X) × (slice_get slots n ≡ Some (Some x)) × Q n x)
      → (length (somes slots) ≡ length slots) × ((n : ℕ) → n < length slots → (x : X) × (slice_get (somes slots) n ≡ Some x) × Q n x)
  all_somes Q [] h = (refl, λ n within. absurd (omega arith))
  all_somes Q (None ∷ slots) h = absurd (let e = (h 0 (omega arith)).1 in let z : Some None ≡ Some (Some (h 0 (omega arith)).0) = e in cc)
  all_somes Q (Some y ∷ slots) h =
      let rest = all_somes (λ n x. Q (suc n) x) slots (λ n within. h (suc n) (omega arith)) in
      let first = h 0 (omega arith) in (
        (let r = rest.0 in omega arith),
        λ n. elim n as (λ n. n < length (Some y ∷ slots) → (x : X) × (slice_get (y ∷ somes slots) n ≡ Some x) × Q n x) [
          | zero ↦ λ within. (first.0, ap (λ (z : X). Some z) (one_value y first.0 first.1), first.2)
          | suc m ↦ λ within. rest.1 m (omega arith)
        ],
      )

  pub all_there : (kept : List (ℕ × X)) (slots : List (Option X)) (count : ℕ) → length slots ≡ count → IsPlaced kept slots → AreThere kept count (somes slots)
  all_there kept slots count long placed = let rest = all_somes (λ n x. Contains kept (n, x)) slots placed in (rest.0 ∙ long, λ n within. rest.1 n (omega arith))

  pub result_there : {V E : Type 0} (r : Result V E) (items : V → List X) (kept : List (ℕ × X)) (slots : List (Option X)) (count : ℕ) → IfOk r (λ v. items v ≡ somes slots) → AreThere kept count (somes slots) → IfOk r (λ v. AreThere kept count (items v))
  result_there (Ok v) items kept slots count is all = subst (λ (l : List X). AreThere kept count l) (sym is) all
  result_there (Err e) items kept slots count is all = tt

  -- one more place
  pub one_some : (done : List (Option X)) (slot : Option X) (a : X) (old new : List X) → slot ≡ Some a → old ≡ somes done → new ≡ old ++ a ∷ [] → new ≡ somes (done ++ slot ∷ [])
  one_some done slot a old new is so_far pushed =
      pushed ∙ (ap (λ (l : List X). l ++ a ∷ []) so_far ∙ sym (somes_joined done (slot ∷ []) ∙ ap (λ (z : Option X). somes done ++ somes (z ∷ [])) is))

  pub one_none : (done : List (Option X)) (slot : Option X) (old : List X) → slot ≡ None → old ≡ somes done → old ≡ somes (done ++ slot ∷ [])
  one_none done slot old is so_far = so_far ∙ (nothing_after (somes done) ∙ sym (somes_joined done (slot ∷ []) ∙ ap (λ (z : Option X). somes done ++ somes (z ∷ [])) is))
