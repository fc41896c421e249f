-- Operators that bind at least as tight are passed outwards, and the answer stays the same.
use Rattle.std.proofs.Common.{◌≡◌}
use Rattle.code_tree.specs.Flat.{level_view}
use Rattle.code_tree.specs.View.{expr_view}
use Rattle.code_law.specs.Ladder.{join as join_step}
use Rattle.code_words.specs.Words.{joint_view}
use Rattle.code_state.specs.Stack.{stack_view, depth}
use Rattle.code_chains.proofs.chains.join.Given as goal

abbrev pub invariant-outwards : goal.invariant-outwards
invariant-outwards l =
    join_step l.at (stack_view l.stack) (expr_view l.expr) (level_view l.level) (joint_view l.joint) ≡ join_step l.at (stack_view l.fn.stack) (expr_view l.fn.whole) (level_view l.level) (joint_view l.joint)

abbrev pub decreases-outwards : goal.decreases-outwards
decreases-outwards l = depth l.stack
