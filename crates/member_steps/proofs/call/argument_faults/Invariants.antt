use Rattle.std.proofs.Common.{◌≡◌, take}
use Rattle.std.specs.List.{flat_map}
use Rattle.check_world.specs.View.{world_view}
use Rattle.typing.specs.Members.{member_misfits}
use Rattle.member_steps.specs.View.{arguments_view, levels_seen}
use Rattle.member_steps.proofs.call.argument_faults.Given as goal

abbrev pub invariant-loop-i : goal.invariant-loop-i
invariant-loop-i l = l.faults ≡ flat_map (member_misfits (world_view l.world) (arguments_view l.arguments)) (levels_seen (take l.i l.members))
