use Rattle.std.proofs.Common.{◌≡◌, length}
use Rattle.number_draws.proofs.order.empty.Given as goal

abbrev pub invariant-loop-i : goal.invariant-loop-i
invariant-loop-i g l = length l.slots.items ≡ l._i
