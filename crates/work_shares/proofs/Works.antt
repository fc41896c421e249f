-- Work that adds up.
use Rattle.std.proofs.Common.{◌≡◌, ℕ, ◌+◌, ◌-◌, ◌^◌, ◌<◌, ◌≤◌, sym, ap, ◌∙◌, subst, arith}
use Rattle.analyst.specs.Work.{Work, work_of, no_work, risen, done, RisesWithin, IsWithin, IsCounted}
use Rattle.work_shares.specs.Shares.{both}

-- the first work is part of the second
pub record IsPart (a b : Work) : Type 0 where
  pub fronts : a.fronts ≤ b.fronts
  pub merges : a.merges ≤ b.merges
  pub checks : a.checks ≤ b.checks

-- ---- one count

risen_twice : (c a b : ℕ) → risen (risen c a) b ≡ risen c (a + b)
risen_twice c a b = omega arith

risen_none : (c : ℕ) → c < 2 ^ 64 → risen c 0 ≡ c
risen_none c low = omega arith

rises_all : (c a all : ℕ) → c < 2 ^ 64 → a ≤ all → RisesWithin c (risen c a) all
rises_all c a all low part = (omega arith, omega arith)

rises_more : (c a now b all : ℕ) → c < 2 ^ 64 → a + b ≤ all → RisesWithin (risen c a) now b → RisesWithin c now all
rises_more c a now b all low part rises = (let r = rises.0 in omega arith, let r = rises.1 in omega arith)

rises_then : (c mid now a b : ℕ) → RisesWithin c mid a → RisesWithin mid now b → RisesWithin c now (a + b)
rises_then c mid now a b first then =
    let f0 = first.0 in let f1 = first.1 in let t0 = then.0 in let t1 = then.1 in
    (omega arith, omega arith)

rises_part : (c now a all : ℕ) → a ≤ all → RisesWithin c now a → RisesWithin c now all
rises_part c now a all part rises = (rises.0, let r = rises.1 in omega arith)

rises_wider : (c now a more : ℕ) → RisesWithin c now a → RisesWithin c now (more + a)
rises_wider c now a more rises = (rises.0, let r = rises.1 in omega arith)

plus_none : (n : ℕ) → n ≡ n + 0
plus_none n = omega arith

none_plus : (n : ℕ) → n ≡ 0 + n
none_plus n = omega arith

plus_next : (a b c : ℕ) → (a + b) + c ≡ a + (b + c)
plus_next a b c = omega arith

-- ---- all three

pub both_none : (w : Work) → w ≡ both w no_work
both_none w = λ i. work_of (plus_none w.fronts i) (plus_none w.merges i) (plus_none w.checks i)

pub none_both : (w : Work) → w ≡ both no_work w
none_both w = λ i. work_of (none_plus w.fronts i) (none_plus w.merges i) (none_plus w.checks i)

pub both_next : (a b c : Work) → both (both a b) c ≡ both a (both b c)
both_next a b c = λ i. work_of (plus_next a.fronts b.fronts c.fronts i) (plus_next a.merges b.merges c.merges i) (plus_next a.checks b.checks c.checks i)

pub done_twice : (w a b : Work) → done (done w a) b ≡ done w (both a b)
done_twice w a b = λ i. work_of (risen_twice w.fronts a.fronts b.fronts i) (risen_twice w.merges a.merges b.merges i) (risen_twice w.checks a.checks b.checks i)

-- no work
pub worked_none : (w now : Work) → IsCounted w → now ≡ w → now ≡ done w no_work
worked_none w now low is = is ∙ (λ i. work_of (sym (risen_none w.fronts low.fronts) i) (sym (risen_none w.merges low.merges) i) (sym (risen_none w.checks low.checks) i))

-- some work, and then some more
pub worked_more : (w mid now a b all : Work) → mid ≡ done w a → now ≡ done mid b → all ≡ both a b → now ≡ done w all
worked_more w mid now a b all first then is = then ∙ (ap (λ (m : Work). done m b) first ∙ (done_twice w a b ∙ ap (λ (m : Work). done w m) (sym is)))

-- all of it was done, and the call has no answer
pub within_all : (w now a all : Work) → IsCounted w → now ≡ done w a → IsPart a all → IsWithin w now all
within_all w now a all low is part = subst (λ (n : Work). IsWithin w n all) (sym is) (record {
  fronts = rises_all w.fronts a.fronts all.fronts low.fronts part.fronts;
  merges = rises_all w.merges a.merges all.merges low.merges part.merges;
  checks = rises_all w.checks a.checks all.checks low.checks part.checks;
})

pub within_same : (w now all : Work) → IsCounted w → now ≡ done w all → IsWithin w now all
within_same w now all low is = within_all w now all all low is (record { fronts = omega arith; merges = omega arith; checks = omega arith })

-- all of the first part was done, and of the second no more than it
pub within_more : (w mid now a b all : Work) → IsCounted w → mid ≡ done w a → IsWithin mid now b → IsPart (both a b) all → IsWithin w now all
within_more w mid now a b all low first rest part =
    let r : IsWithin (done w a) now b = subst (λ (m : Work). IsWithin m now b) first rest in record {
      fronts = rises_more w.fronts a.fronts now.fronts b.fronts all.fronts low.fronts part.fronts r.fronts;
      merges = rises_more w.merges a.merges now.merges b.merges all.merges low.merges part.merges r.merges;
      checks = rises_more w.checks a.checks now.checks b.checks all.checks low.checks part.checks r.checks;
    }

-- more was to be done
pub within_wider : (w now a more : Work) → IsWithin w now a → IsWithin w now (both more a)
within_wider w now a more within = record {
  fronts = rises_wider w.fronts now.fronts a.fronts more.fronts within.fronts;
  merges = rises_wider w.merges now.merges a.merges more.merges within.merges;
  checks = rises_wider w.checks now.checks a.checks more.checks within.checks;
}

-- the work is part of more
pub within_part : (w now a all : Work) → IsWithin w now a → IsPart a all → IsWithin w now all
within_part w now a all within part = record {
  fronts = rises_part w.fronts now.fronts a.fronts all.fronts part.fronts within.fronts;
  merges = rises_part w.merges now.merges a.merges all.merges part.merges within.merges;
  checks = rises_part w.checks now.checks a.checks all.checks part.checks within.checks;
}

-- no more than some was done, and then no more than some more
pub within_both : (w mid now a b : Work) → IsWithin w mid a → IsWithin mid now b → IsWithin w now (both a b)
within_both w mid now a b first then = record {
  fronts = rises_then w.fronts mid.fronts now.fronts a.fronts b.fronts first.fronts then.fronts;
  merges = rises_then w.merges mid.merges now.merges a.merges b.merges first.merges then.merges;
  checks = rises_then w.checks mid.checks now.checks a.checks b.checks first.checks then.checks;
}

-- what is left of the work beside a part of it
minus : (a all : ℕ) → a ≤ all → all ≡ (all - a) + a
minus a all part = omega arith

abbrev pub rest_of : Work → Work → Work
rest_of all a = work_of (all.fronts - a.fronts) (all.merges - a.merges) (all.checks - a.checks)

pub rest_is : (a all : Work) → IsPart a all → all ≡ both (rest_of all a) a
rest_is a all part = λ i. work_of (minus a.fronts all.fronts part.fronts i) (minus a.merges all.merges part.merges i) (minus a.checks all.checks part.checks i)
