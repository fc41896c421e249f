-- The work of reading a text and of checking it.
use Rattle.std.proofs.Common.{◌≡◌, ℕ, ◌+◌, ◌^◌, ◌<◌, ◌≤◌, ap, ◌∙◌, subst, arith}
use Rattle.analyst.specs.Work.{Work, work_of, fronting, checking, risen, done, RisesWithin, IsWithin, IsCounted}
use Rattle.request_core.specs.Works.{checking_text}

risen_twice : (c a b : ℕ) → risen (risen c a) b ≡ risen c (a + b)
risen_twice c a b = omega arith

rises_all : (c a all : ℕ) → c < 2 ^ 64 → a ≤ all → RisesWithin c (risen c a) all
rises_all c a all low part = (omega arith, omega arith)

rises_part : (c now a all : ℕ) → a ≤ all → RisesWithin c now a → RisesWithin c now all
rises_part c now a all part rises = (rises.0, let r = rises.1 in omega arith)

rises_more : (c a now b all : ℕ) → c < 2 ^ 64 → a + b ≤ all → RisesWithin (risen c a) now b → RisesWithin c now all
rises_more c a now b all low part rises = (let r = rises.0 in omega arith, let r = rises.1 in omega arith)

no_more : (c now : ℕ) → c < 2 ^ 64 → now ≡ c → now ≡ risen c 0
no_more c now low is = omega arith

-- nothing was done
pub nothing_done : (w now : Work) → IsCounted w → now ≡ w → IsWithin w now checking_text
nothing_done w now low is = subst (λ (n : Work). IsWithin w n checking_text) (let e : w ≡ now = cc in e) (record {
  fronts = stays w.fronts 1 low.fronts;
  merges = stays w.merges 0 low.merges;
  checks = stays w.checks 1 low.checks;
})
  where
    stays : (c all : ℕ) → c < 2 ^ 64 → RisesWithin c c all
    stays c all few = (omega arith, omega arith)

-- reading gave no answer
pub front_failed : (w now : Work) → IsWithin w now fronting → IsWithin w now checking_text
front_failed w now within = record {
  fronts = within.fronts;
  merges = within.merges;
  checks = rises_part w.checks now.checks 0 1 (omega arith) within.checks;
}

-- the text was read, and there was no memory for what it is checked by
pub job_failed : (w now : Work) → IsCounted w → now ≡ done w fronting → IsWithin w now checking_text
job_failed w now low is = subst (λ (n : Work). IsWithin w n checking_text) (let e : done w fronting ≡ now = cc in e) (record {
  fronts = rises_all w.fronts 1 1 low.fronts (omega arith);
  merges = rises_all w.merges 0 0 low.merges (omega arith);
  checks = rises_all w.checks 0 1 low.checks (omega arith);
})

-- it was read, and its check gave no answer
pub check_failed : (w mid now : Work) → IsCounted w → mid ≡ done w fronting → IsWithin mid now checking → IsWithin w now checking_text
check_failed w mid now low first rest =
    let r : IsWithin (done w fronting) now checking = subst (λ (m : Work). IsWithin m now checking) first rest in record {
      fronts = rises_more w.fronts 1 now.fronts 0 1 low.fronts (omega arith) r.fronts;
      merges = rises_more w.merges 0 now.merges 0 0 low.merges (omega arith) r.merges;
      checks = rises_more w.checks 0 now.checks 1 1 low.checks (omega arith) r.checks;
    }

-- it was read and checked
pub both_done : (w mid now : Work) → mid ≡ done w fronting → now ≡ done mid checking → now ≡ done w checking_text
both_done w mid now first rest =
    rest ∙ ap (λ (m : Work). done m checking) first
    ∙ (λ i. work_of (risen_twice w.fronts 1 0 i) (risen_twice w.merges 0 0 i) (risen_twice w.checks 0 1 i))

-- and there was no memory for the answer
pub answer_failed : (w now : Work) → IsCounted w → now ≡ done w checking_text → IsWithin w now checking_text
answer_failed w now low is = subst (λ (n : Work). IsWithin w n checking_text) (let e : done w checking_text ≡ now = cc in e) (record {
  fronts = rises_all w.fronts 1 1 low.fronts (omega arith);
  merges = rises_all w.merges 0 0 low.merges (omega arith);
  checks = rises_all w.checks 1 1 low.checks (omega arith);
})
