use Rattle.std.proofs.Common.{option_map}
use Rattle.code_tree.specs.Flat.{operator_view}
use Rattle.code_tree.specs.View.{expr_view}
use Rattle.scopes.specs.View.{scope_view}
use Rattle.place_tests.specs.View.{comparison_view}
use Rattle.place_tests.proofs.Only.{by_equality, if_ok}
use Rattle.place_tests.proofs.sides.compared_at.Goals as goal

pub returns-in-Some : goal.returns-in-Some
returns-in-Some c =
    if_ok c.compared_by.result
    (λ x told. by_equality (scope_view c.args.scope.now) (expr_view c.args.left.now) (expr_view c.args.right.now) (operator_view c.args.operator) c.in-Some.equality (option_map comparison_view x) c.in-Some.ensures told)
    c.compared_by.ensures
