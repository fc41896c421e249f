use Rattle.std.proofs.Common.{◌≡◌}
use Rattle.recheck_sources.proofs.parsing.shared_all.Given as goal

abbrev pub invariant-loop-parse : goal.invariant-loop-parse
invariant-loop-parse l = l.all.items ≡ l.yielded
