use Rattle.std.proofs.Common.{take}
use Rattle.typing.specs.Changes.{declared_in}
use Rattle.code_tree.specs.View.{statements_view}
use Rattle.code_plans.specs.View.{Owns}
use Rattle.code_plans.proofs.own_names.names_of_block.Given as goal

abbrev pub invariant-loop-i : goal.invariant-loop-i
invariant-loop-i l = Owns l.own (declared_in (statements_view (take l.i l.statements)))
