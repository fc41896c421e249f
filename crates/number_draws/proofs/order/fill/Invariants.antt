use Rattle.std.proofs.Common.{length}
use Rattle.number_draws.proofs.Filling.{IsFilling}
use Rattle.number_draws.proofs.order.fill.Given as goal

-- as far as they are placed
abbrev pub invariant-places : goal.invariant-places
invariant-places g l = IsFilling l.initial.kept.items l.kept.items l.slots.items (length l.fn.slots.items)

abbrev pub decreases-places : goal.decreases-places
decreases-places g l = length l.kept.items
