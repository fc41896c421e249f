use Rattle.std.proofs.Common.{refl}
use Rattle.check_moves.specs.View.{around, now}
use Rattle.check_world.specs.View.{world_view}
use Rattle.statement_moves.proofs.Entering.{end_annotated}
use Rattle.statement_moves.proofs.bodies.end_body.Goals as goal

pub returns-in_ok-ask-in-Some-clause-env : goal.returns-in_ok-ask-in-Some-clause-env
unfolding around now
returns-in_ok-ask-in-Some-clause-env c =
    end_annotated (world_view c.args.world.now) c.args.signature.now c.in-Some.tree c.in_ok-want-in-Some.want c.args.state.now (record c.args.state.now { notes = c.ask.new.self }) c.is_dead.result c.in-Some.is c.is_dead.ensures c.if-is_dead.false c.in_ok-want-in-Some.ensures refl refl c.in_ok-ask-in-Some.ensures.ok
