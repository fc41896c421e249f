use Rattle.std.proofs.Common.{arith}
use Rattle.heap_world.specs.Seen.{world_of, event_of}
use Rattle.heap_world.proofs.Lengths.{answered_lengths, answered_history}
use Rattle.heap_world.proofs.Worlds.{length-states}
use Rattle.heap_world.proofs.world.World.apply.Goals as goal

pub returns-clause-lengths : goal.returns-clause-lengths
returns-clause-lengths g c = answered_lengths c.happen.result (world_of c.args.self.now) (world_of c.happen.new.self) (event_of c.args.event.now) c.happen.ensures.answers c.happen.ensures.err c.requires.lengths

pub returns-clause-few : goal.returns-clause-few
returns-clause-few g c =
    let n = answered_history c.happen.result (world_of c.args.self.now) (world_of c.happen.new.self) (event_of c.args.event.now) c.happen.ensures.answers c.happen.ensures.err in
    let a = length-states c.args.self.now.history in let b = length-states c.happen.new.self.history in omega arith
