use Rattle.check_moves.specs.View.{around}
use Rattle.check_world.specs.View.{world_view}
use Rattle.scopes.specs.Rows.{binding_view}
use Rattle.check_expr.proofs.Entering.{own_named}
use Rattle.check_expr.proofs.functions.own_binding.Goals as goal

pub returns-in_ok-binding-in-Some : goal.returns-in_ok-binding-in-Some
unfolding around
returns-in_ok-binding-in-Some c =
    own_named (world_view c.args.world.now) c.args.is_expression c.args.function.now c.in-Some.name c.in_ok-token-in-Some.token c.args.state.now.scope.depth (binding_view c.in_ok-binding-in-Some.binding) c.if-not-is_expression.false c.in-Some.is c.in_ok-token-in-Some.ensures c.in_ok-binding-in-Some.ensures
