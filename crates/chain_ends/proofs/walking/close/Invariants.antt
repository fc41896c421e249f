use Rattle.chain_ends.specs.Walking.{HasWalked}
use Rattle.chain_ends.proofs.walking.close.Given as goal

abbrev pub invariant-loop-n : goal.invariant-loop-n
invariant-loop-n l = HasWalked l.links l.fn.marks l.marks l.trail.items l.start l.end

abbrev pub decreases-loop-n : goal.decreases-loop-n
decreases-loop-n l = goal.left-loop-n l
