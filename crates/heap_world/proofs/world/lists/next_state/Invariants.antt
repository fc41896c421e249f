use Rattle.std.proofs.Common.{◌≡◌, take, map}
use Rattle.std.specs.Option.{option_map}
use Rattle.std.specs.Arc.{arc_value}
use Rattle.heap_world.specs.World.{replaced}
use Rattle.heap_world.proofs.world.lists.next_state.Given as goal

abbrev pub invariant-loop-e : goal.invariant-loop-e
invariant-loop-e g l = map arc_value l.list ≡ take l.e (replaced (map arc_value l.state) (map (option_map arc_value) l.pending))
