use Rattle.std.proofs.Common.{◌≡◌, true, false, length}
use Rattle.fact_trail.specs.declared.slot.Slot.{Slot}
use Rattle.fact_arms.specs.Differences.{is_listed}
use Rattle.fact_arms.specs.Gathering.{has_slot}
use Rattle.fact_arms.proofs.fresh.Fresh.of.Given as goal

-- those that are not left are fresh
abbrev pub invariant-loop-slot : goal.invariant-loop-slot
invariant-loop-slot l = (s : Slot) → is_listed l.fn.slots.items s ≡ true → is_listed l.slots.items s ≡ false → has_slot l.fresh s ≡ true

abbrev pub decreases-loop-slot : goal.decreases-loop-slot
decreases-loop-slot l = length l.slots.items
