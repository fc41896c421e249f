use Rattle.std.proofs.Common.{ap, map}
use Rattle.std.specs.Option.{option_map}
use Rattle.std.specs.Arc.{arc_value}
use Rattle.heap_world.specs.Seen.{world_of}
use Rattle.heap_world.proofs.Worlds.{end_refuses, end_agrees}
use Rattle.heap_world.proofs.world.World.end.Goals as goal

pub returns-then-not-none_pends : goal.returns-then-not-none_pends
returns-then-not-none_pends g c = end_refuses (world_of c.args.self.now) c.as_slice.result.now c.none_pends.result (ap (map (option_map arc_value)) c.as_slice.ensures) c.none_pends.ensures.no c.if-not-none_pends.true

pub returns : goal.returns
returns g c = end_agrees (world_of c.args.self.now) c.as_slice.result.now c.none_pends.result (ap (map (option_map arc_value)) c.as_slice.ensures) c.if-not-self.false c.none_pends.ensures.yes c.if-not-none_pends.false
