use Rattle.std.proofs.Common.{◌≡◌}
use Rattle.recheck_merging.proofs.merging.shared_all.Given as goal

abbrev pub invariant-loop-signature : goal.invariant-loop-signature
invariant-loop-signature l = l.all.items ≡ l.yielded
