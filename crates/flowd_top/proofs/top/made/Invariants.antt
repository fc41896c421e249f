use Rattle.std.proofs.Common.{◌≡◌, length}
use Rattle.flowd_top.proofs.top.made.Given as goal

abbrev pub invariant-loop : goal.invariant-loop
invariant-loop g l = length l.analysts.items ≡ l.counter
