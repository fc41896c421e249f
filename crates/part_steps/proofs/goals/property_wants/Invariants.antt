use Rattle.check_world.specs.View.{levels_seen}
use Rattle.std.proofs.Common.{◌≡◌, take}
use Rattle.std.specs.List.{filter_map}
use Rattle.typing.specs.Members.{target_of_prop}
use Rattle.part_steps.proofs.goals.property_wants.Given as goal

abbrev pub invariant-loop-i : goal.invariant-loop-i
invariant-loop-i l = l.wants ≡ filter_map (target_of_prop l.key) (levels_seen (take l.i l.members))
