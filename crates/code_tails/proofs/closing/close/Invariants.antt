-- Forms that end with the expression are passed outwards, and the answer stays the same.
use Rattle.std.proofs.Common.{◌≡◌}
use Rattle.code_tree.specs.View.{expr_view}
use Rattle.code_law.specs.Ladder.{close as close_step}
use Rattle.code_state.specs.Stack.{stack_view, depth}
use Rattle.code_tails.proofs.closing.close.Given as goal

abbrev pub invariant-outwards : goal.invariant-outwards
invariant-outwards l = close_step l.at (stack_view l.stack) (expr_view l.expr) l.token ≡ close_step l.at (stack_view l.fn.stack) (expr_view l.fn.whole) l.token

abbrev pub decreases-outwards : goal.decreases-outwards
decreases-outwards l = depth l.stack
