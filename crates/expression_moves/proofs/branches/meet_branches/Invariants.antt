use Rattle.std.proofs.Common.{length, reverse}
use Rattle.check_world.specs.View.{world_view}
use Rattle.expression_moves.proofs.Meeting.{BranchesMet}
use Rattle.expression_moves.proofs.branches.meet_branches.Given as goal

abbrev pub invariant-loop-branch : goal.invariant-loop-branch
invariant-loop-branch l = BranchesMet (world_view l.world) l.end (reverse l.fn.chosen.items) l.fn.last l.fn.state (reverse l.chosen.items) l.read l.state

abbrev pub decreases-loop-branch : goal.decreases-loop-branch
decreases-loop-branch l = length l.chosen.items
