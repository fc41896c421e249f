use Rattle.heap_world.specs.World.{HasLengths}
use Rattle.heap_world.specs.Seen.{world_of}
use Rattle.heap_cases.proofs.tests.worlds.each_event_is_taken.Given as goal

abbrev pub invariant-loop-event : goal.invariant-loop-event
invariant-loop-event g l = HasLengths (world_of l.world)
