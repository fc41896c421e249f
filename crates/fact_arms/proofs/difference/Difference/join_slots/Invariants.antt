use Rattle.std.proofs.Common.{length}
use Rattle.fact_trail.specs.Moments.{map_of}
use Rattle.fact_arms.proofs.Settling.{Joins}
use Rattle.fact_arms.proofs.difference.Difference.join_slots.Given as goal

abbrev pub invariant-loop-slot : goal.invariant-loop-slot
invariant-loop-slot l = Joins l.arm l.fn.self (map_of l.trail) l.fn.slots.items l.slots.items l.self

abbrev pub decreases-loop-slot : goal.decreases-loop-slot
decreases-loop-slot l = length l.slots.items
