-- The work of jobs of one kind.
use Rattle.std.proofs.Common.{◌≡◌, ℕ, List, [], ◌∷◌, length, sum_by, refl, subst, arith, Result}
use Rattle.std.proofs.lemmas.List.Sums.{sum_by-cons}
use Rattle.analyst.specs.Work.{Work, work_of, fronting, merging, checking, fronts_of, checks_of}
use Rattle.work_shares.specs.Shares.{work_sum, AreWorked}

module _ {X : Type 0} where
  ones : (xs : List X) → sum_by (λ x. 1) xs ≡ length xs
  ones [] = refl
  ones (x ∷ xs) = let rest = ones xs in omega (arith, sum_by-cons (λ (y : X). 1) x xs)

  zeros : (xs : List X) → sum_by (λ x. 0) xs ≡ 0
  zeros [] = refl
  zeros (x ∷ xs) = let rest = zeros xs in omega (arith, sum_by-cons (λ (y : X). 0) x xs)

  module _ {V E : Type 0} (result : Result V E) (xs : List X) (before now : List Work) where
    pub fronts_counted : AreWorked result (work_sum (λ x. fronting) xs) before now → AreWorked result (fronts_of (length xs)) before now
    fronts_counted h = subst (λ (w : Work). AreWorked result w before now) (λ k. work_of (ones xs k) (zeros xs k) (zeros xs k)) h

    pub checks_counted : AreWorked result (work_sum (λ x. checking) xs) before now → AreWorked result (checks_of (length xs)) before now
    checks_counted h = subst (λ (w : Work). AreWorked result w before now) (λ k. work_of (zeros xs k) (zeros xs k) (ones xs k)) h

    pub merges_counted : (f : X → ℕ) → AreWorked result (work_sum (λ x. merging (f x)) xs) before now → AreWorked result (merging (sum_by f xs)) before now
    merges_counted f h = subst (λ (w : Work). AreWorked result w before now) (λ k. work_of (zeros xs k) (sum_by f xs) (zeros xs k)) h
