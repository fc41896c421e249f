use Rattle.std.proofs.Common.{length}
use Rattle.fact_trail.specs.Moments.{map_of}
use Rattle.fact_arms.proofs.Meeting.{Meets}
use Rattle.fact_arms.proofs.joining.meet.Given as goal

abbrev pub invariant-loop-slot : goal.invariant-loop-slot
invariant-loop-slot l = Meets l.first l.fn.second (map_of l.trail) l.slots.items l.rest l.difference

abbrev pub decreases-loop-slot : goal.decreases-loop-slot
decreases-loop-slot l = length l.slots.items
