use Rattle.std.proofs.Common.{◌≡◌, map, take}
use Rattle.check_world.specs.View.{world_view, levels_seen}
use Rattle.member_steps.specs.View.{steps_view, summed, part_view}
use Rattle.typing.specs.Members.{index_read}
use Rattle.part_steps.proofs.members.read_elements.Given as goal

abbrev pub invariant-loop-i : goal.invariant-loop-i
invariant-loop-i l = steps_view l.steps ≡ summed (map (index_read (world_view l.world) (part_view l.part) l.index) (levels_seen (take l.i l.members)))
