-- How numbers are dealt out.
use Rattle.std.specs.Prelude.{◌≡◌, ℕ, ◌<◌, List, [], sum_by}
use Rattle.std.specs.List.{AllByRecursion}
use Rattle.number_draws.specs.Below.{below}
use Rattle.number_draws.specs.Hands.{all_parts}
use Rattle.number_draws.specs.declared.hand.Hand.{Hand}

-- all parts are here, nothing is taken, and all numbers are below the end
pub record IsFresh (end : ℕ) (v : Hand) : Type 0 where
  pub parts : v.parts ≡ all_parts
  pub taken : v.taken ≡ []
  pub below : AllByRecursion (λ i. i < end) v.put

-- the numbers below the end are dealt out, each to one deque and once
pub record AreDealt (end : ℕ) (views : List Hand) : Type 0 where
  pub fresh : AllByRecursion (IsFresh end) views
  pub each : (h : ℕ → ℕ) → sum_by (λ v. sum_by h v.put) views ≡ sum_by h (below end)
