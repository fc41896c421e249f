-- Finding a number among others.
use Rattle.std.proofs.Common.{◌≡◌, ◌==◌, ◌<◌, ◌≤◌, ◌||◌, ◌⊎◌, ℕ, suc, Bool, true, false, List, [], ◌∷◌, length, get_or, Result, Ok, Err, Some, refl, sym, ap, ◌∙◌, inl, inr, arith}
use Rattle.std.specs.List.{list_any, IsAllAdjacentAnswer}
use Rattle.std.specs.List.Sorted.{IsNonDecreasing, IsBinarySearchResult}
use Rattle.std.specs.Ordering.{nat_cmp, is_le, is_some_and}
use Rattle.std.specs.Result.{is_ok, MatchResult}
use Rattle.std.proofs.lemmas.Bool.{eqb-true, eq-eqb, cases_lt}
use Rattle.std.proofs.lemmas.List.Folds.{list_any_at}
use Rattle.std.proofs.lemmas.List.Sorted.{non_decreasing_from_is_sorted, searched}

-- numbers whose neighbours are in order rise
pub rises_if : (xs : List ℕ) (r : Bool) → IsAllAdjacentAnswer (λ x y b. is_some_and is_le (Some (nat_cmp x y)) ≡ b) xs r → r ≡ true → IsNonDecreasing xs
rises_if xs true answer is = non_decreasing_from_is_sorted xs true answer
rises_if xs false answer is = cc

none_any : (x : ℕ) (xs : List ℕ) → ((k : ℕ) → k < length xs → get_or xs k 0 ≡ x → ⊥) → list_any (λ c. c == x) xs ≡ false
none_any x [] apart = refl
none_any x (y ∷ xs) apart = at (y == x) refl (none_any x xs (λ k below. apart (suc k) (omega arith)))
  where
    at : (b : Bool) → (y == x) ≡ b → list_any (λ c. c == x) xs ≡ false → ((y == x) || list_any (λ c. c == x) xs) ≡ false
    at true same rest = absurd (apart 0 (omega arith) (eqb-true y x same))
    at false other rest = ap (λ b. b || list_any (λ c. c == x) xs) other ∙ rest

-- what halving finds in numbers that rise
pub found_among : (xs : List ℕ) (x : ℕ) (r : Result ℕ ℕ) → IsBinarySearchResult (λ y. nat_cmp y x) xs r → IsNonDecreasing xs → is_ok r ≡ list_any (λ c. c == x) xs
found_among xs x r found rises = at r (searched xs x r found (λ i j. rises i j 0))
  where
    apart : (k i : ℕ) → (k < i) ⊎ (i ≤ k) → (k < i → get_or xs k 0 < x) → (i ≤ k → x < get_or xs k 0) → get_or xs k 0 ≡ x → ⊥
    apart k i (inl less) below above same = let is = below less in omega (arith, is, same)
    apart k i (inr more) below above same = let is = above more in omega (arith, is, same)

    at : (r : Result ℕ ℕ) → MatchResult r (λ i. (i < length xs) × (get_or xs i 0 ≡ x)) (λ i. (i ≤ length xs) × ((k : ℕ) → k < i → get_or xs k 0 < x) × ((k : ℕ) → i ≤ k → k < length xs → x < get_or xs k 0)) → is_ok r ≡ list_any (λ c. c == x) xs
    at (Ok i) is = sym (list_any_at (λ c. c == x) xs i 0 is.0 (eq-eqb (get_or xs i 0) x is.1))
    at (Err i) is = sym (none_any x xs (λ k within. apart k i (cases_lt k i) (is.1 k) (λ more. is.2 k more within)))
