-- Operators are passed outwards, and the answer stays the same.
use Rattle.std.proofs.Common.{◌≡◌}
use Rattle.code_tree.specs.View.{expr_view}
use Rattle.code_law.specs.Ladder.{ask as ask_step}
use Rattle.code_state.specs.Stack.{stack_view, depth}
use Rattle.code_chains.proofs.asks.ask.Given as goal

abbrev pub invariant-outwards : goal.invariant-outwards
invariant-outwards l = ask_step l.at (stack_view l.stack) (expr_view l.expr) ≡ ask_step l.at (stack_view l.fn.stack) (expr_view l.fn.whole)

abbrev pub decreases-outwards : goal.decreases-outwards
decreases-outwards l = depth l.stack
