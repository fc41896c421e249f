use Rattle.std.proofs.Common.{arith}
use Rattle.check_world.specs.View.{world_view}
use Rattle.binders.proofs.InOrder.{params_next}
use Rattle.binders.proofs.signatures.params_of.Goals as goal

pub loop-i-preserved : goal.loop-i-preserved
loop-i-preserved c =
    params_next (world_view c.args.world.now) c.args.parameters.now c.loop-i.i c.index-parameters-i.result c.in_ok-param_of.field-0 c.loop-i.params c.push.new.self (omega arith)
    c.index-parameters-i.is c.in_ok-param_of.ensures c.loop-i.invariant c.in_ok-push.ensures.ok
