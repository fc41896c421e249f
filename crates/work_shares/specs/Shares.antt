-- How the work of many jobs is shared out among those who do it.
use Rattle.std.specs.Prelude.{◌≡◌, ℕ, ◌+◌, ◌-◌, ◌^◌, ◌<◌, ◌≤◌, List, [], ◌∷◌, sum_by, Result, Ok, Err}
use Rattle.std.specs.List.{AllByRecursion}
use Rattle.analyst.specs.Work.{Work, work_of, no_work, done, IsWithin}

-- the work of both
abbrev pub both : Work → Work → Work
both a b = work_of (a.fronts + b.fronts) (a.merges + b.merges) (a.checks + b.checks)

-- the work of all jobs
abbrev pub work_sum : {J : Type 0} → (J → Work) → List J → Work
work_sum f jobs = work_of (sum_by (λ job. (f job).fronts) jobs) (sum_by (λ job. (f job).merges) jobs) (sum_by (λ job. (f job).checks) jobs)

-- each did a part of the work, and the parts add up to all of it
abbrev pub AreDone : List Work → List Work → Work → Type 0
AreDone [] [] all = all ≡ no_work
AreDone [] (n ∷ now) all = ⊥
AreDone (b ∷ before) [] all = ⊥
AreDone (b ∷ before) (n ∷ now) all = (mine : Work) × (rest : Work) × (all ≡ both mine rest) × (n ≡ done b mine) × AreDone before now rest

-- each did no more than a part of the work, and the parts add up to no more than all of it
abbrev pub AreWithin : List Work → List Work → Work → Type 0
AreWithin [] [] all = Unit {0}
AreWithin [] (n ∷ now) all = ⊥
AreWithin (b ∷ before) [] all = ⊥
AreWithin (b ∷ before) (n ∷ now) all = (mine : Work) × (rest : Work) × (all ≡ both mine rest) × IsWithin b n mine × AreWithin before now rest

-- a call that was asked for some work had all of it done, or no more of it where it gave no answer
abbrev pub AreWorked : {T E : Type 0} → Result T E → Work → List Work → List Work → Type 0
AreWorked (Ok x) work before now = AreDone before now work
AreWorked (Err e) work before now = AreWithin before now work

-- no count stands at its greatest value
abbrev pub IsBelow : (Work → ℕ) → List Work → Type 0
IsBelow count now = AllByRecursion (λ n. count n < 2 ^ 64 - 1) now

-- a sum of counts rose by exactly so much, but where a count stands at its greatest value
abbrev pub Rose : (Work → ℕ) → Type 0
Rose count = (before now : List Work) (w : Work) → AreDone before now w → IsBelow count now → sum_by count now ≡ sum_by count before + count w

-- it rose by no more than so much
abbrev pub RoseWithin : (Work → ℕ) → Type 0
RoseWithin count = (before now : List Work) (w : Work) → AreWithin before now w → (sum_by count before ≤ sum_by count now) × (sum_by count now ≤ sum_by count before + count w)

-- what each did adds up to the work, count by count
pub record SumLaw : Type 0 where
  pub fronts : Rose (λ w. w.fronts)
  pub merges : Rose (λ w. w.merges)
  pub checks : Rose (λ w. w.checks)
  pub no_more_fronts : RoseWithin (λ w. w.fronts)
  pub no_more_merges : RoseWithin (λ w. w.merges)
  pub no_more_checks : RoseWithin (λ w. w.checks)
