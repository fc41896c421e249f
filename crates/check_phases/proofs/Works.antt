-- Work that adds up.
use Rattle.std.proofs.Common.{◌≡◌, ℕ, ◌+◌, ◌-◌, ◌^◌, ◌<◌, ◌≤◌, List, length, take, get_or, sum_by, sym, ap, ◌∙◌, subst, arith}
use Rattle.std.proofs.lemmas.List.Sums.{sum_by_more, sum_by-take-le}
use Rattle.graph_search.proofs.Lists.{take_whole}
use Rattle.analyst.specs.Work.{Work, work_of, no_work, merging, checking, checks_of, risen, done, RisesWithin, IsWithin, IsCounted}

-- the work of both
abbrev pub both : Work → Work → Work
both a b = work_of (a.fronts + b.fronts) (a.merges + b.merges) (a.checks + b.checks)

-- the first work is part of the second
pub record IsPart (a b : Work) : Type 0 where
  pub fronts : a.fronts ≤ b.fronts
  pub merges : a.merges ≤ b.merges
  pub checks : a.checks ≤ b.checks

-- ---- one count

risen_twice : (c a b : ℕ) → risen (risen c a) b ≡ risen c (a + b)
risen_twice c a b = omega arith

risen_none : (c : ℕ) → c < 2 ^ 64 → risen c 0 ≡ c
risen_none c low = omega arith

rises_all : (c a all : ℕ) → c < 2 ^ 64 → a ≤ all → RisesWithin c (risen c a) all
rises_all c a all low part = (omega arith, omega arith)

rises_more : (c a now b all : ℕ) → c < 2 ^ 64 → a + b ≤ all → RisesWithin (risen c a) now b → RisesWithin c now all
rises_more c a now b all low part rises = (let r = rises.0 in omega arith, let r = rises.1 in omega arith)

-- ---- all three

pub done_twice : (w a b : Work) → done (done w a) b ≡ done w (both a b)
done_twice w a b = λ i. work_of (risen_twice w.fronts a.fronts b.fronts i) (risen_twice w.merges a.merges b.merges i) (risen_twice w.checks a.checks b.checks i)

-- no work
pub worked_none : (w now : Work) → IsCounted w → now ≡ w → now ≡ done w no_work
worked_none w now low is = is ∙ (λ i. work_of (sym (risen_none w.fronts low.fronts) i) (sym (risen_none w.merges low.merges) i) (sym (risen_none w.checks low.checks) i))

-- some work, and then some more
pub worked_more : (w mid now a b all : Work) → mid ≡ done w a → now ≡ done mid b → all ≡ both a b → now ≡ done w all
worked_more w mid now a b all first then is = then ∙ (ap (λ (m : Work). done m b) first ∙ (done_twice w a b ∙ ap (done w) (sym is)))

-- all of it was done, and the call has no answer
pub within_all : (w now a all : Work) → IsCounted w → now ≡ done w a → IsPart a all → IsWithin w now all
within_all w now a all low is part = subst (λ (n : Work). IsWithin w n all) (sym is) (record {
  fronts = rises_all w.fronts a.fronts all.fronts low.fronts part.fronts;
  merges = rises_all w.merges a.merges all.merges low.merges part.merges;
  checks = rises_all w.checks a.checks all.checks low.checks part.checks;
})

-- none of it was done
pub within_none : (w now all : Work) → IsCounted w → now ≡ w → IsWithin w now all
within_none w now all low is = within_all w now no_work all low (worked_none w now low is) (record { fronts = omega arith; merges = omega arith; checks = omega arith })

-- all of the first part was done, and of the second no more than it
pub within_more : (w mid now a b all : Work) → IsCounted w → mid ≡ done w a → IsWithin mid now b → IsPart (both a b) all → IsWithin w now all
within_more w mid now a b all low first rest part =
    let r : IsWithin (done w a) now b = subst (λ (m : Work). IsWithin m now b) first rest in record {
      fronts = rises_more w.fronts a.fronts now.fronts b.fronts all.fronts low.fronts part.fronts r.fronts;
      merges = rises_more w.merges a.merges now.merges b.merges all.merges low.merges part.merges r.merges;
      checks = rises_more w.checks a.checks now.checks b.checks all.checks low.checks part.checks r.checks;
    }

-- the same, where what was done is all
pub within_same : (w now all : Work) → IsCounted w → now ≡ done w all → IsWithin w now all
within_same w now all low is = within_all w now all all low is (record { fronts = omega arith; merges = omega arith; checks = omega arith })

-- the work of a job, by another count of its members
pub members_done : (n m : ℕ) (w now : Work) → n ≡ m → now ≡ done w (merging n) → now ≡ done w (merging m)
members_done n m w now same is = is ∙ ap (λ (k : ℕ). done w (merging k)) same

pub members_within : (n m : ℕ) (w now : Work) → n ≡ m → IsWithin w now (merging n) → IsWithin w now (merging m)
members_within n m w now same within = subst (λ (k : ℕ). IsWithin w now (merging k)) same within

-- ---- as loops have it

module _ (f : ℕ → ℕ) (ks : List ℕ) (i : ℕ) (w mid now : Work) where
  pub merges_more : i < length ks → mid ≡ done w (merging (sum_by f (take i ks))) → now ≡ done mid (merging (f (get_or ks i 0))) → now ≡ done w (merging (sum_by f (take (i + 1) ks)))
  merges_more below so_far rest =
      worked_more w mid now (merging (sum_by f (take i ks))) (merging (f (get_or ks i 0))) (merging (sum_by f (take (i + 1) ks))) so_far rest (λ j. work_of 0 (sum_by_more f ks i 0 below j) 0)

  pub merges_part : IsCounted w → i < length ks → mid ≡ done w (merging (sum_by f (take i ks))) → IsWithin mid now (merging (f (get_or ks i 0))) → IsWithin w now (merging (sum_by f ks))
  merges_part low below so_far rest =
      let next = sum_by_more f ks i 0 below in
      let most = sum_by-take-le f ks (i + 1) in
      within_more w mid now (merging (sum_by f (take i ks))) (merging (f (get_or ks i 0))) (merging (sum_by f ks)) low so_far rest (record { fronts = omega arith; merges = omega arith; checks = omega arith })

pub merges_all : (f : ℕ → ℕ) (ks : List ℕ) (i : ℕ) (w now : Work) → length ks ≤ i → now ≡ done w (merging (sum_by f (take i ks))) → now ≡ done w (merging (sum_by f ks))
merges_all f ks i w now all so_far = so_far ∙ ap (λ (l : List ℕ). done w (merging (sum_by f l))) (take_whole ks i all)

-- one more module of a batch
pub checks_more : (x start : ℕ) (w mid now : Work) → start ≤ x → mid ≡ done w (checks_of (x - start)) → now ≡ done mid checking → now ≡ done w (checks_of (x + 1 - start))
checks_more x start w mid now behind so_far rest =
    let e : x + 1 - start ≡ (x - start) + 1 = omega arith in
    worked_more w mid now (checks_of (x - start)) checking (checks_of (x + 1 - start)) so_far rest (λ j. work_of 0 0 (e j))

pub checks_part : (x start all : ℕ) (w mid now : Work) → IsCounted w → start ≤ x → x < start + all → mid ≡ done w (checks_of (x - start)) → IsWithin mid now checking → IsWithin w now (checks_of all)
checks_part x start all w mid now low behind below so_far rest =
    within_more w mid now (checks_of (x - start)) checking (checks_of all) low so_far rest (record { fronts = omega arith; merges = omega arith; checks = omega arith })

pub checks_done : (x start all : ℕ) (w mid now : Work) → IsCounted w → start ≤ x → x < start + all → mid ≡ done w (checks_of (x - start)) → now ≡ done mid checking → IsWithin w now (checks_of all)
checks_done x start all w mid now low behind below so_far rest =
    within_all w now (checks_of (x + 1 - start)) (checks_of all) low (checks_more x start w mid now behind so_far rest) (record { fronts = omega arith; merges = omega arith; checks = omega arith })
