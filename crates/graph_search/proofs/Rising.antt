-- Lists in which what comes later is above what comes earlier.
use Rattle.std.proofs.Common.{◌≡◌, ℕ, zero, suc, ◌<◌, ◌≤◌, ◌⊎◌, List, [], ◌∷◌, ◌++◌, length, slice_get, Some, refl, sym, ap, ◌∙◌, inl, inr, arith, subst}
use Rattle.std.proofs.lemmas.Bool.{cases_lt}
use native.Mathlib.Decide.{ℕ_discrete}
use Rattle.graph_search.specs.Cycles.{Has}
use Rattle.graph_search.specs.Reach.{IsRising}
use Rattle.graph_search.proofs.Lists.{none_some, get_small}

-- what stands in a list with one more stood there before, or is the last
pub place_split : {A : Type 0} (xs : List A) (y : A) (i : ℕ) (x : A) → slice_get (xs ++ y ∷ []) i ≡ Some x → (slice_get xs i ≡ Some x) ⊎ ((x ≡ y) × (i ≡ length xs))
place_split [] y zero x h = inr ((let f : Some y ≡ Some x = h in cc), refl)
place_split [] y (suc i) x h = none_some x h
place_split (z ∷ xs) y zero x h = inl h
place_split (z ∷ xs) y (suc i) x h = elim (place_split xs y i x h) [ inl r ↦ inl r | inr s ↦ inr (s.0, ap suc s.1) ]

pub get_last : {A : Type 0} (xs : List A) (x : A) → slice_get (xs ++ x ∷ []) (length xs) ≡ Some x
get_last [] x = refl
get_last (y ∷ xs) x = get_last xs x

pub get_there : {A : Type 0} (xs : List A) (i : ℕ) → i < length xs → (x : A) × (slice_get xs i ≡ Some x)
get_there [] i h = absurd (omega arith)
get_there (x ∷ xs) zero h = (x, refl)
get_there (x ∷ xs) (suc i) h = get_there xs i (omega arith)

pub one_at : {A : Type 0} (xs : List A) (i : ℕ) (x y : A) → slice_get xs i ≡ Some x → slice_get xs i ≡ Some y → x ≡ y
one_at xs i x y a b = let both : Some x ≡ Some y = sym a ∙ b in cc

pub rising_none : IsRising []
rising_none = λ i j x y less a b. none_some x a

pub rising_more : (xs : List ℕ) (n : ℕ) → IsRising xs → ((y : ℕ) → Has xs y → y < n) → IsRising (xs ++ n ∷ [])
rising_more xs n rising below = λ i j x y less a b. elim (place_split xs n i x a) [
  | inl a_old ↦ elim (place_split xs n j y b) [
    | inl b_old ↦ rising i j x y less a_old b_old
    | inr b_last ↦ subst (λ (z : ℕ). x < z) (sym b_last.0) (below x (i, a_old))
  ]
  | inr a_last ↦ absurd (elim (place_split xs n j y b) [
    | inl b_old ↦ (let small = get_small xs j y b_old in let at = a_last.1 in omega arith)
    | inr b_last ↦ (let at = a_last.1 in let there = b_last.1 in omega arith)
  ])
]

pub same_list : {A : Type 0} (xs ys : List A) → ((i : ℕ) (x : A) → slice_get xs i ≡ Some x → slice_get ys i ≡ Some x) → ((i : ℕ) (x : A) → slice_get ys i ≡ Some x → slice_get xs i ≡ Some x) → xs ≡ ys
same_list [] [] f g = refl
same_list [] (y ∷ ys) f g = none_some y (g 0 y refl)
same_list (x ∷ xs) [] f g = none_some x (f 0 x refl)
same_list (x ∷ xs) (y ∷ ys) f g =
    let first : Some y ≡ Some x = f 0 x refl in
    let e : x ≡ y = cc in
    let rest : xs ≡ ys = same_list xs ys (λ i z. f (suc i) z) (λ i z. g (suc i) z) in
    cc

-- lists in an order that have the same elements are equal
module _ {A : Type 0} (R : A → A → Type 0) (never : (x : A) → R x x → ⊥) (not_back : (x y : A) → R x y → R y x → ⊥) where
  abbrev Ordered : List A → Type 0
  Ordered xs = (i j : ℕ) (x y : A) → i < j → slice_get xs i ≡ Some x → slice_get xs j ≡ Some y → R x y

  abbrev AllIn : List A → List A → Type 0
  AllIn xs ys = (i : ℕ) (x : A) → slice_get xs i ≡ Some x → (j : ℕ) × (slice_get ys j ≡ Some x)

  no_later : (xs ys : List A) → Ordered xs → Ordered ys → AllIn xs ys → (i j : ℕ) (x : A) → slice_get xs i ≡ Some x → slice_get ys j ≡ Some x → i ≤ j
  no_later xs ys up_xs up_ys all zero j x a b = omega arith
  no_later xs ys up_xs up_ys all (suc i) j x a b =
      let small = get_small xs (suc i) x a in
      let z = get_there xs i (omega arith) in
      let k = all i z.0 z.1 in
      let before : i ≤ k.0 = no_later xs ys up_xs up_ys all i k.0 z.0 z.1 k.1 in
      let step : R z.0 x = up_xs i (suc i) z.0 x (omega arith) z.1 a in
      elim (cases_lt k.0 j) [
        | inl less ↦ omega arith
        | inr more ↦ absurd (elim (ℕ_discrete k.0 j) [
          | yes same ↦ never x (subst (λ (w : A). R w x) (one_at ys j z.0 x (ap (slice_get ys) (sym same) ∙ k.1) b) step)
          | no other ↦ not_back z.0 x step (up_ys j k.0 x z.0 (omega arith) b k.1)
        ])
      ]

  same_place : (xs ys : List A) → Ordered xs → Ordered ys → AllIn xs ys → AllIn ys xs → (i : ℕ) (x : A) → slice_get xs i ≡ Some x → slice_get ys i ≡ Some x
  same_place xs ys up_xs up_ys there back i x a =
      let k = there i x a in
      let up = no_later xs ys up_xs up_ys there i k.0 x a k.1 in
      let down = no_later ys xs up_ys up_xs back k.0 i x k.1 a in
      let same : k.0 ≡ i = omega arith in
      ap (slice_get ys) (sym same) ∙ k.1

  pub one_list : (xs ys : List A) → Ordered xs → Ordered ys → AllIn xs ys → AllIn ys xs → xs ≡ ys
  one_list xs ys up_xs up_ys there back = same_list xs ys (same_place xs ys up_xs up_ys there back) (same_place ys xs up_ys up_xs back there)

pub one_rising : (xs ys : List ℕ) → IsRising xs → IsRising ys → ((x : ℕ) → Has xs x → Has ys x) → ((x : ℕ) → Has ys x → Has xs x) → xs ≡ ys
one_rising xs ys a b there back = one_list (λ (x y : ℕ). x < y) (λ x h. omega arith) (λ x y h k. omega arith) xs ys a b (λ i x at. there x (i, at)) (λ i x at. back x (i, at))
