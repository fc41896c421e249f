use Rattle.std.proofs.Common.{◌≡◌, map, take}
use Rattle.check_world.specs.View.{world_view, levels_seen}
use Rattle.member_steps.specs.View.{steps_view, summed, call_view}
use Rattle.typing.specs.Members.{member_called}
use Rattle.part_steps.proofs.members.called.Given as goal

abbrev pub invariant-loop-i : goal.invariant-loop-i
invariant-loop-i l = steps_view l.steps ≡ summed (map (member_called (world_view l.world) (call_view l.call)) (levels_seen (take l.i l.members)))
