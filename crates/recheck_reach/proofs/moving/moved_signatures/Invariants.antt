use Rattle.recheck_reach.specs.Moved.{AreTold}
use Rattle.recheck_reach.proofs.moving.moved_signatures.Given as goal

abbrev pub invariant-loop-i : goal.invariant-loop-i
invariant-loop-i l = AreTold l.was l.from l.signatures l.merged l.i l.moved.items
