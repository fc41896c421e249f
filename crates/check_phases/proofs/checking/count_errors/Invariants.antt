use Rattle.std.proofs.Common.{◌≡◌, length, take, sum_by}
use Rattle.check_phases.proofs.checking.count_errors.Given as goal

abbrev pub invariant-loop-i : goal.invariant-loop-i
invariant-loop-i l = l.count ≡ sum_by (λ e. length e.faults) (take l.i l.errors)
