use Rattle.std.proofs.Common.{◌≡◌, ◌≤◌, length}
use Rattle.fact_trail.specs.declared.slot.Slot.{Slot}
use Rattle.fact_trail.specs.Moments.{map_of, IsNew}
use Rattle.fact_arms.specs.Differences.{over, Leaves, GoesBack}
use Rattle.fact_arms.proofs.difference.Difference.take.Given as goal

-- what was taken leads back to the facts at the start
abbrev pub invariant-loop-difference : goal.invariant-loop-difference
invariant-loop-difference l = record {
  made : over l.difference (map_of l.trail) ≡ map_of l.fn.trail;
  leaves : (s : Slot) → IsNew s l.fn.trail → Leaves s l.difference;
  within : l.number ≤ length l.trail.changes.items;
  goes : GoesBack l.fn.trail l.trail;
}

abbrev pub decreases-loop-difference : goal.decreases-loop-difference
decreases-loop-difference l = length l.trail.changes.items
