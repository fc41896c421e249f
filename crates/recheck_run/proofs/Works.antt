-- Work that adds up to that of an edit.
use Rattle.std.proofs.Common.{◌≡◌, ℕ, ◌+◌, ◌≤◌, ap, arith}
use Rattle.recheck_reach.specs.analyst.specs.Work.{Work, work_of, no_work, merging, done, IsWithin, IsCounted}
use Rattle.recheck_run.specs.Extent.{Extent}
use Rattle.recheck_run.specs.Recheck.{HasWorked, whole_work}

-- nothing is done yet
pub worked_none : (work : Work) → IsCounted work → HasWorked work work no_work
worked_none work low = (let f = low.fronts in let m = low.merges in let c = low.checks in record { fronts = omega (arith, f); merges = (omega arith, omega (arith, m)); checks = omega (arith, c) })

module _ (before mid now : Work) (a b c : ℕ) (first : HasWorked before mid (work_of a b c)) where
  -- and then all of some more
  pub more_work : (p q r x y z : ℕ) → now ≡ done mid (work_of p q r) → x ≡ a + p → y ≡ b + q → z ≡ c + r → HasWorked before now (work_of x y z)
  more_work p q r x y z then e f g =
      let fronts = first.fronts in
      let least = first.merges.0 in
      let most = first.merges.1 in
      let checks = first.checks in
      let fronts_then = ap (λ (w : Work). w.fronts) then in
      let merges_then = ap (λ (w : Work). w.merges) then in
      let checks_then = ap (λ (w : Work). w.checks) then in
      record { fronts = omega (arith, fronts, fronts_then, e); merges = (omega (arith, least, most, merges_then), omega (arith, most, merges_then, f)); checks = omega (arith, checks, checks_then, g) }

  -- and then no more than some merges
  pub more_merges : (q y : ℕ) → IsWithin mid now (merging q) → y ≡ b + q → HasWorked before now (work_of a y c)
  more_merges q y then f =
      let fronts = first.fronts in
      let least = first.merges.0 in
      let most = first.merges.1 in
      let checks = first.checks in
      let fronts_least = then.fronts.0 in
      let fronts_most = then.fronts.1 in
      let merges_least = then.merges.0 in
      let merges_most = then.merges.1 in
      let checks_least = then.checks.0 in
      let checks_most = then.checks.1 in
      record { fronts = omega (arith, fronts, fronts_least, fronts_most); merges = (omega (arith, least, merges_least), omega (arith, most, merges_most, f)); checks = omega (arith, checks, checks_least, checks_most) }

  -- and then no more than some of the rest
  pub part_work : (p q r : ℕ) (n : Extent) → IsCounted before → IsWithin mid now (work_of p q r) → a + p ≤ n.parsed → b + q ≤ n.merged → c + r ≤ n.checked → IsWithin before now (whole_work n)
  part_work p q r n low then e f g =
      let low_fronts = low.fronts in
      let low_checks = low.checks in
      let fronts = first.fronts in
      let least = first.merges.0 in
      let most = first.merges.1 in
      let checks = first.checks in
      let fronts_least = then.fronts.0 in
      let fronts_most = then.fronts.1 in
      let merges_least = then.merges.0 in
      let merges_most = then.merges.1 in
      let checks_least = then.checks.0 in
      let checks_most = then.checks.1 in
      record {
        fronts = (omega (arith, low_fronts, fronts, fronts_least), omega (arith, fronts, fronts_most, e));
        merges = (omega (arith, least, merges_least), omega (arith, most, merges_most, f));
        checks = (omega (arith, low_checks, checks, checks_least), omega (arith, checks, checks_most, g));
      }

-- some work is no more than all
pub idle : (n : Extent) (before now : Work) (a b c : ℕ) → IsCounted before → HasWorked before now (work_of a b c) → a ≤ n.parsed → b ≤ n.merged → c ≤ n.checked → IsWithin before now (whole_work n)
idle n before now a b c low is e f g =
    let low_fronts = low.fronts in
    let low_checks = low.checks in
    let fronts = is.fronts in
    let least = is.merges.0 in
    let most = is.merges.1 in
    let checks = is.checks in
    record { fronts = (omega (arith, low_fronts, fronts), omega (arith, fronts, e)); merges = (omega (arith, least), omega (arith, most, f)); checks = (omega (arith, low_checks, checks), omega (arith, checks, g)) }
