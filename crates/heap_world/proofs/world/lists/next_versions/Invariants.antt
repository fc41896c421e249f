use Rattle.std.proofs.Common.{◌≡◌, take, map}
use Rattle.std.specs.Option.{option_map}
use Rattle.std.specs.Arc.{arc_value}
use Rattle.heap_world.specs.World.{renewed}
use Rattle.heap_world.proofs.world.lists.next_versions.Given as goal

abbrev pub invariant-loop-e : goal.invariant-loop-e
invariant-loop-e g l = l.list ≡ take l.e (renewed l.version (map (option_map arc_value) l.pending) l.versions)
