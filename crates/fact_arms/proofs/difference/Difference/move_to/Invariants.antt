use Rattle.fact_arms.specs.Differences.{count_of}
use Rattle.fact_arms.proofs.Taking.{Moved}
use Rattle.fact_arms.proofs.difference.Difference.move_to.Given as goal

abbrev pub invariant-loop-slot : goal.invariant-loop-slot
invariant-loop-slot l = Moved l.fn.self l.fn.trail l.rest l.trail

abbrev pub decreases-loop-slot : goal.decreases-loop-slot
decreases-loop-slot l = count_of l.rest
