use Rattle.std.proofs.Common.{◌≡◌}
use Rattle.recheck_checking.proofs.checking.shared_all.Given as goal

abbrev pub invariant-loop-errs : goal.invariant-loop-errs
invariant-loop-errs l = l.all.items ≡ l.yielded
