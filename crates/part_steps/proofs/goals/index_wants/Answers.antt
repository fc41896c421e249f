use Rattle.std.proofs.Common.{arith}
use Rattle.check_world.specs.View.{world_view}
use Rattle.typing.specs.Members.{target_of_index}
use Rattle.part_steps.proofs.Steps.{wants_more}
use Rattle.part_steps.proofs.goals.index_wants.Goals as goal

pub loop-i-preserved : goal.loop-i-preserved
loop-i-preserved c =
    wants_more (target_of_index (world_view c.args.world.now) c.args.index.now) c.args.members.now c.loop-i.i c.index-members-i.result c.in_ok-target_of_index.field-0 c.loop-i.wants c.add_want.new.wants (omega arith)
    c.index-members-i.is c.in_ok-target_of_index.ensures c.loop-i.invariant c.in_ok-add_want.ensures
