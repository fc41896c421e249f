use Rattle.check_world.specs.View.{world_view}
use Rattle.expression_moves.proofs.Prefixing.{MarksRead}
use Rattle.expression_moves.proofs.places.read_prefixes.Given as goal

abbrev pub invariant-loop-i : goal.invariant-loop-i
invariant-loop-i l = MarksRead (world_view l.world) l.marks l.first l.end l.fn.read l.fn.state l.i l.from l.read l.state

abbrev pub decreases-loop-i : goal.decreases-loop-i
decreases-loop-i l = l.i
