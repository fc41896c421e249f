use Rattle.std.proofs.Common.{◌≡◌}
use Rattle.number_draws.specs.Places.{somes}
use Rattle.number_draws.proofs.order.collect.Given as goal

-- of those that it has gone over
abbrev pub invariant-loop-slot : goal.invariant-loop-slot
invariant-loop-slot g l = l.all.items ≡ somes l.yielded
