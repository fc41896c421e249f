use Rattle.chain_ends.specs.Walking.{Walking}
use Rattle.chain_ends.proofs.Walks.{new_count}
use Rattle.chain_ends.proofs.walking.walk.Given as goal

abbrev pub invariant-loop-next : goal.invariant-loop-next
invariant-loop-next l = Walking l.links l.fn.marks l.marks l.trail.items l.fn.start l.at

abbrev pub decreases-loop-next : goal.decreases-loop-next
decreases-loop-next l = new_count l.marks
