-- Forms that end with the type are passed outwards, and the answer stays the same.
use Rattle.std.proofs.Common.{◌≡◌}
use Rattle.js_grammar.specs.Machine.{give as give_step}
use Rattle.type_tree.specs.View.{type_view}
use Rattle.type_parser.specs.State.{stack_view}
use Rattle.type_parser.proofs.step.give.Given as goal

abbrev pub invariant-outwards : goal.invariant-outwards
invariant-outwards l = give_step l.plain l.at (stack_view l.stack.items) (type_view l.ty) l.token ≡ give_step l.plain l.at (stack_view l.fn.stack.items) (type_view l.fn.whole) l.token

abbrev pub decreases-outwards : goal.decreases-outwards
decreases-outwards l = goal.left-outwards l
