use Rattle.std.proofs.Common.{◌≡◌, map}
use Rattle.recheck_merging.proofs.merging.shared_each.Given as goal

abbrev pub invariant-loop-own : goal.invariant-loop-own
invariant-loop-own l = map (λ own. own.items) l.all.items ≡ l.yielded
