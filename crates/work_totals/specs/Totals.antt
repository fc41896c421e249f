-- What several did together.
use Rattle.std.specs.Prelude.{◌≡◌, ℕ, ◌-◌, ◌^◌, List, length, sum_by, min}
use Rattle.work_shares.specs.analyst.specs.Work.{Work, work_of, done, IsWithin, IsCounted}
use Rattle.work_shares.specs.Shares.{AreDone, AreWithin}

-- a sum of counts that stays at its greatest value
abbrev pub sum_up_to : (Work → ℕ) → List Work → ℕ
sum_up_to count works = min (sum_by count works) (2 ^ 64 - 1)

-- each count of all together, up to its greatest value
abbrev pub total : List Work → Work
total works = work_of (sum_up_to (λ w. w.fronts) works) (sum_up_to (λ w. w.merges) works) (sum_up_to (λ w. w.checks) works)

-- the work of all together rises as that of one would
pub record TotalLaw : Type 0 where
  pub done : (before now : List Work) (w : Work) → AreDone before now w → total now ≡ done (total before) w
  pub within : (before now : List Work) (w : Work) → AreWithin before now w → IsWithin (total before) (total now) w
  pub many : (before now : List Work) (w : Work) → AreDone before now w → length now ≡ length before
  pub many_within : (before now : List Work) (w : Work) → AreWithin before now w → length now ≡ length before
  pub counted : (works : List Work) → IsCounted (total works)
