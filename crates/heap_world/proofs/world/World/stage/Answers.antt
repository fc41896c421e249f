use Rattle.std.proofs.Common.{◌∙◌, ap, arith, List, Bool}
use Rattle.std.specs.Arc.{arc_value}
use Rattle.heap_world.specs.World.{stage, emptied}
use Rattle.heap_world.specs.Seen.{world_of}
use Rattle.heap_world.proofs.Worlds.{agrees, seen_staged}
use Rattle.heap_world.proofs.world.World.stage.Goals as goal

pub returns-clause-answers : goal.returns-clause-answers
returns-clause-answers g c =
    let w = world_of c.args.self.now in
    let pending = seen_staged c.args.self.now.pending c.set.new.self c.args.entity c.in_ok-shared.shared (arc_value c.args.payload.now) c.set.ensures c.in_ok-shared.ensures in
    let filled = c.in_ok-rows.ensures ∙ ap (λ (rows : List (List Bool)). emptied rows c.args.entity) c.as_slice.ensures in
    agrees w (stage c.args.entity (arc_value c.args.payload.now)) _ (omega arith, c.if-not-self.false)
    (λ j. record { entities = w.entities; lanes = w.lanes; history = w.history; versions = w.versions; is_open = w.is_open; drained = w.drained; pending = pending j; filled = filled j; published = w.published; pins = w.pins })
