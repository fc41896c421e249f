use Rattle.std.proofs.Common.{◌≡◌, ◌≤◌, length}
use Rattle.fact_trail.specs.declared.slot.Slot.{Slot}
use Rattle.fact_trail.specs.Moments.{map_of, IsNew}
use Rattle.fact_arms.specs.Differences.{over, Leaves, GoesBack}
use Rattle.fact_arms.specs.Gathering.{Settled}
use Rattle.fact_arms.proofs.gathered.Gathered.take.Given as goal

-- what was taken leads back to the facts at the start
abbrev pub invariant-loop-self : goal.invariant-loop-self
invariant-loop-self l = record {
  made : over l.self.difference (map_of l.trail) ≡ over l.fn.self.difference (map_of l.fn.trail);
  leaves : (s : Slot) → IsNew s l.fn.trail → Leaves s l.fn.self.difference → Leaves s l.self.difference;
  settled : Settled l.self (map_of l.trail);
  within : l.number ≤ length l.trail.changes.items;
  goes : GoesBack l.fn.trail l.trail;
}

abbrev pub decreases-loop-self : goal.decreases-loop-self
decreases-loop-self l = length l.trail.changes.items
