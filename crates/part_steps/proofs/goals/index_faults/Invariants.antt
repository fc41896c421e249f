use Rattle.std.proofs.Common.{◌≡◌, map, take}
use Rattle.check_world.specs.View.{world_view, levels_seen}
use Rattle.member_steps.specs.View.{part_view}
use Rattle.typing.specs.Members.{index_written, steps_faults}
use Rattle.part_steps.proofs.goals.index_faults.Given as goal

abbrev pub invariant-loop-i : goal.invariant-loop-i
invariant-loop-i l = l.faults ≡ steps_faults (map (index_written (world_view l.world) (part_view l.part) l.index) (levels_seen (take l.i l.members)))
