use Rattle.std.proofs.Common.{◌≡◌, take}
use Rattle.std.specs.List.{filter_map}
use Rattle.check_world.specs.View.{world_view, levels_seen}
use Rattle.typing.specs.Members.{target_of_index}
use Rattle.part_steps.proofs.goals.index_wants.Given as goal

abbrev pub invariant-loop-i : goal.invariant-loop-i
invariant-loop-i l = l.wants ≡ filter_map (target_of_index (world_view l.world) l.index) (levels_seen (take l.i l.members))
