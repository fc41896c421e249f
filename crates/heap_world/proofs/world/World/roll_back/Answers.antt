use Rattle.std.proofs.Common.{◌∙◌, ap, arith, List, Bool, length}
use Rattle.heap_world.specs.World.{roll_back, emptied}
use Rattle.heap_world.specs.Seen.{world_of}
use Rattle.heap_world.proofs.Worlds.{agrees, seen_emptied, length-seen, pends_as}
use Rattle.heap_world.proofs.world.World.roll_back.Goals as goal

pub returns-clause-answers : goal.returns-clause-answers
returns-clause-answers g c =
    let w = world_of c.args.self.now in
    let pending = seen_emptied c.args.self.now.pending c.set.new.self c.args.entity c.set.ensures in
    let filled = c.in_ok-rows.ensures ∙ ap (λ (rows : List (List Bool)). emptied rows c.args.entity) c.as_slice-2.ensures in
    let published = c.set-2.ensures in
    let p = c.pends.ensures.yes c.if-not-pends.false in let n = ap length c.as_slice.ensures in let m = c.requires.pending in let k = length-seen c.args.self.now.pending in
    agrees w (roll_back c.args.entity) _ (omega arith, pends_as c.as_slice.result.now c.args.self.now.pending c.args.entity c.as_slice.ensures p.1)
    (λ j. record { entities = w.entities; lanes = w.lanes; history = w.history; versions = w.versions; is_open = w.is_open; drained = w.drained; pending = pending j; filled = filled j; published = published j; pins = w.pins })
