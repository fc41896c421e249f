use Rattle.std.proofs.Common.{arith}
use Rattle.check_world.specs.View.{world_view, notes_view}
use Rattle.binders.proofs.InOrder.{read_next}
use Rattle.binders.proofs.signatures.read_parameters.Goals as goal

pub loop-i-preserved : goal.loop-i-preserved
loop-i-preserved c =
    read_next (world_view c.args.world.now) c.args.parameters.now c.loop-i.i c.index-parameters-i.result (notes_view c.args.notes.now) (notes_view c.loop-i.notes) (notes_view c.read_parameter.new.notes)
    (omega arith) c.index-parameters-i.is c.in_ok-read_parameter.ensures c.loop-i.invariant
