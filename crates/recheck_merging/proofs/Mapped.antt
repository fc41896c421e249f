-- Lists of which each element is made of one of another list, and rising lists of numbers.
use Rattle.std.proofs.Common.{◌≡◌, ℕ, zero, suc, ◌+◌, ◌<◌, ◌≤◌, List, [], ◌∷◌, ◌++◌, All, map, length, take, get_or, slice_get, Some, None, refl, sym, ap, ◌∙◌, subst, inl, inr, arith, ◌^◌}
use Rattle.std.proofs.lemmas.Bool.{cases_lt}
use Rattle.std.proofs.lemmas.List.Elements.{All-get_or, All-from_get_or}
use Rattle.graph_search.specs.Cycles.{Has}
use Rattle.graph_search.specs.Reach.{IsRising}
use Rattle.heap_core.proofs.Lists.{get_there}
use Rattle.check_phases.proofs.Lists.{one_value, within_there, value_at, place_at}

module _ {A B : Type 0} (f : A → B) where
  pub get_mapped : (xs : List A) (i : ℕ) (x : A) → slice_get xs i ≡ Some x → slice_get (map f xs) i ≡ Some (f x)
  get_mapped [] i x at = absurd (let z : None ≡ Some x = at in cc)
  get_mapped (y ∷ xs) zero x at = ap (λ (z : A). Some (f z)) (one_value y x at)
  get_mapped (y ∷ xs) (suc i) x at = get_mapped xs i x at

  pub mapped_from : (xs : List A) (i : ℕ) (y : B) → slice_get (map f xs) i ≡ Some y → (x : A) × (slice_get xs i ≡ Some x) × (y ≡ f x)
  mapped_from [] i y at = absurd (let z : None ≡ Some y = at in cc)
  mapped_from (x ∷ xs) zero y at = (x, refl, sym (one_value (f x) y at))
  mapped_from (x ∷ xs) (suc i) y at = mapped_from xs i y at

  pub length_mapped : (xs : List A) → length (map f xs) ≡ length xs
  length_mapped [] = refl
  length_mapped (x ∷ xs) = ap suc (length_mapped xs)

  -- one more, as loops have it
  pub mapped_more : (xs : List A) (i : ℕ) (x : A) → slice_get xs i ≡ Some x → map f (take (i + 1) xs) ≡ map f (take i xs) ++ f x ∷ []
  mapped_more [] i x at = absurd (let z : None ≡ Some x = at in cc)
  mapped_more (y ∷ xs) zero x at = ap (λ (z : A). f z ∷ []) (one_value y x at)
  mapped_more (y ∷ xs) (suc i) x at = let n : suc i + 1 ≡ suc (i + 1) = omega arith in rw n (ap (λ (l : List B). f y ∷ l) (mapped_more xs i x at))

-- what holds of all holds of each
pub all_has : (P : ℕ → Type 0) (xs : List ℕ) → All P xs → (x : ℕ) → Has xs x → P x
all_has P xs all x has = subst P (sym (value_at xs has.0 x 0 has.1)) (All-get_or P xs has.0 0 (within_there xs has.0 x has.1) all)

pub has_all : (P : ℕ → Type 0) (xs : List ℕ) → ((x : ℕ) → Has xs x → P x) → All P xs
has_all P xs each = All-from_get_or P xs 0 (λ i low. each (get_or xs i 0) (i, place_at xs i 0 low))

-- a number of a rising list is no less than its place
rising_least : (xs : List ℕ) (i x : ℕ) → IsRising xs → slice_get xs i ≡ Some x → i ≤ x
rising_least xs zero x rising at = omega arith
rising_least xs (suc i) x rising at =
    let low = within_there xs (suc i) x at in
    let y = get_there xs i (omega arith) in
    let least = rising_least xs i y.0 rising y.1 in
    let less = rising i (suc i) y.0 x (omega arith) y.1 at in
    omega arith

-- a rising list of numbers below one is no longer than it
pub rising_few : (xs : List ℕ) (n : ℕ) → IsRising xs → All (λ x. x < n) xs → length xs ≤ n
rising_few xs n rising all = go (length xs) refl
  where
    go : (m : ℕ) → length xs ≡ m → m ≤ n
    go zero many = omega arith
    go (suc m) many =
        let x = get_there xs m (omega (arith, many)) in
        let least = rising_least xs m x.0 rising x.1 in
        let low = all_has (λ (y : ℕ). y < n) xs all x.0 (m, x.1) in
        omega arith

pub rising_few_of : (xs : List ℕ) (n : ℕ) → IsRising xs → All (λ x. x < n) xs → n < 2 ^ 32 → length xs < 2 ^ 32
rising_few_of xs n rising all few = let most = rising_few xs n rising all in omega arith

-- a number of it is as far below that one as there are places behind it
rising_most : (xs : List ℕ) (n d i x : ℕ) → IsRising xs → All (λ y. y < n) xs → i + d + 1 ≡ length xs → slice_get xs i ≡ Some x → x + length xs ≤ n + i
rising_most xs n zero i x rising all many at = let low = all_has (λ (y : ℕ). y < n) xs all x (i, at) in omega (arith, many, low)
rising_most xs n (suc d) i x rising all many at =
    let y = get_there xs (i + 1) (omega (arith, many)) in
    let less = rising i (i + 1) x y.0 (omega arith) at y.1 in
    let most = rising_most xs n d (i + 1) y.0 rising all (omega (arith, many)) y.1 in
    omega (arith, less, most)

-- where it has as many as there are, it has each
pub rising_all : (xs : List ℕ) (n x : ℕ) → IsRising xs → All (λ y. y < n) xs → length xs ≡ n → x < n → Has xs x
rising_all xs n x rising all many low =
    let y = get_there xs x (omega (arith, many, low)) in
    let least = rising_least xs x y.0 rising y.1 in
    let behind : (d : ℕ) × (x + d + 1 ≡ length xs) = rest x (length xs) (omega (arith, many, low)) in
    let most = rising_most xs n behind.0 x y.0 rising all behind.1 y.1 in
    let same : y.0 ≡ x = omega (arith, least, most, many) in
    (x, y.1 ∙ ap Some same)
  where
    rest : (i m : ℕ) → i < m → (d : ℕ) × (i + d + 1 ≡ m)
    rest i zero less = absurd (omega (arith, less))
    rest zero (suc m) less = (m, omega arith)
    rest (suc i) (suc m) less = let more = rest i m (omega (arith, less)) in (more.0, (let e = more.1 in omega (arith, e)))

-- of two places of a rising list that have one number
pub rising_place : (xs : List ℕ) (i j x : ℕ) → IsRising xs → slice_get xs i ≡ Some x → slice_get xs j ≡ Some x → i ≡ j
rising_place xs i j x rising a b = elim (cases_lt i j) [
  | inl less ↦ absurd (let bad = rising i j x x less a b in omega arith)
  | inr more ↦ elim (cases_lt j i) [ inl less ↦ absurd (let bad = rising j i x x less b a in omega arith) | inr same ↦ omega arith ]
]
