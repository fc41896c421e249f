use Rattle.std.proofs.Common.{◌≡◌, map, Some}
use Rattle.recheck_checking.proofs.keeping.whole_errors.Given as goal

abbrev pub invariant-loop-slot : goal.invariant-loop-slot
invariant-loop-slot l = map Some l.all.items ≡ l.yielded
