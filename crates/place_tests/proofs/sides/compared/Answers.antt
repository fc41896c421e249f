use Rattle.std.proofs.Common.{option_map}
use Rattle.code_tree.specs.View.{expr_view}
use Rattle.scopes.specs.View.{scope_view}
use Rattle.place_tests.specs.View.{comparison_view}
use Rattle.place_tests.proofs.Only.{other_operands, one_operand, if_ok}
use Rattle.place_tests.proofs.sides.compared.Goals as goal

pub returns-in-None : goal.returns-in-None
returns-in-None c = other_operands (scope_view c.args.scope.now) (expr_view c.args.left.now) c.args.operands.now c.in-None.ensures.none

pub returns-in-Some : goal.returns-in-Some
returns-in-Some c =
    if_ok c.compared_operand.result
    (λ x told. one_operand (scope_view c.args.scope.now) (expr_view c.args.left.now) c.args.operands.now c.in-Some.operand.now (option_map comparison_view x) c.in-Some.ensures.some.0 c.in-Some.ensures.some.1 told)
    c.compared_operand.ensures
