-- Counts that stay at their greatest value.
use Rattle.std.proofs.Common.{◌≡◌, ℕ, ◌+◌, ◌-◌, ◌^◌, ◌<◌, min, arith}
use Rattle.analyst.specs.Work.{Work, work_of, risen, done, fronting, merging, checking, IsWithin, RisesWithin}

-- nothing more
risen_none : (count : ℕ) → count < 2 ^ 64 → count ≡ risen count 0
risen_none count low = omega arith

risen_within : (count more : ℕ) → count < 2 ^ 64 → RisesWithin count count more
risen_within count more low = (omega arith, omega arith)

module _ (f m c : ℕ) (few_fronts : f < 2 ^ 64) (few_merges : m < 2 ^ 64) (few_checks : c < 2 ^ 64) where
  pub fronted : (now : ℕ) → now ≡ min (f + 1) (2 ^ 64 - 1) → work_of now m c ≡ done (work_of f m c) fronting
  fronted now is = λ i. work_of (is i) (risen_none m few_merges i) (risen_none c few_checks i)

  pub merged : (now members : ℕ) → now ≡ min (m + members) (2 ^ 64 - 1) → work_of f now c ≡ done (work_of f m c) (merging members)
  merged now members is = λ i. work_of (risen_none f few_fronts i) (is i) (risen_none c few_checks i)

  pub checked : (now : ℕ) → now ≡ min (c + 1) (2 ^ 64 - 1) → work_of f m now ≡ done (work_of f m c) checking
  checked now is = λ i. work_of (risen_none f few_fronts i) (risen_none m few_merges i) (is i)

  pub nothing_done : (more : Work) → IsWithin (work_of f m c) (work_of f m c) more
  nothing_done more = record {
    fronts = risen_within f more.fronts few_fronts;
    merges = risen_within m more.merges few_merges;
    checks = risen_within c more.checks few_checks;
  }
