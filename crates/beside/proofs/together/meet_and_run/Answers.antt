use Rattle.std.proofs.Common.{sym, ap, ◌∙◌, arith}
use Rattle.heap_core.specs.Meaning.{Meaning}
use Rattle.request_core.specs.payloads.specs.declared.payload.Payload.{Payload}
use Rattle.entity_heap.specs.Writers.{plan_in, meaning_in}
use Rattle.lane_asks.specs.Telling.{IsSameLane}
use Rattle.lane_asks.proofs.Whole.{same_lanes, zip_long}
use Rattle.beside.proofs.Moving.{moved, may_still, ready_still, rows_tell}
use Rattle.beside.proofs.together.meet_and_run.Goals as goal

pub run_beside-told-requires-clause-may : goal.run_beside-told-requires-clause-may
run_beside-told-requires-clause-may g c κs within = may_still c.args.writer.now c.meet_all.new.self c.args.edits.now c.meet_all.ensures.meaning c.requires.may

pub run_beside-told-requires-clause-ready : goal.run_beside-told-requires-clause-ready
run_beside-told-requires-clause-ready g c κs within =
    ready_still c.args.heap.now (plan_in c.args.writer.now) c.args.asks.now c.args.lanes.now c.meet_all.new.lanes c.args.rows.now c.meet_all.ensures.lanes c.meet_all.ensures.from.1 c.meet_all.ensures.from.2 c.requires.pins c.requires.rows.1 c.requires.rows.0

pub meet_all-requires-2 : goal.meet_all-requires-2
meet_all-requires-2 g c =
    let met = c.meet_all.ensures.from in let few = c.requires.server.few in let long = met.2 in let kept = c.run_beside-told.ensures.kept in let same = zip_long (IsSameLane c.args.heap.now) c.meet_all.new.lanes c.run_beside-told.new.lanes kept in
    record { from = (c.run_beside-told.ensures.rechecked.writer, same_lanes c.args.heap.now c.meet_all.new.lanes c.run_beside-told.new.lanes met.1 kept, omega arith) }

pub returns-clause-rechecked : goal.returns-clause-rechecked
returns-clause-rechecked g c =
    moved c.args.heap.now c.args.writer.now c.meet_all.new.self c.run_beside-told.new.writer c.meet_all-2.new.self _ _ c.args.edits.now c.run_beside-told.new.edits _ _ _ _ c.run_beside-told.result.1
    c.meet_all.ensures.meaning c.meet_all.ensures.plan c.meet_all-2.ensures.meaning c.meet_all-2.ensures.plan c.meet_all-2.ensures.from.0 c.run_beside-told.ensures.rechecked

pub returns-clause-tells : goal.returns-clause-tells
returns-clause-tells g c =
    rows_tell g.A.Analyst.work c.run_beside-told.result.0 c.args.asks.now (plan_in c.args.writer.now) (plan_in c.run_beside-told.new.writer) (meaning_in c.args.writer.now).version (meaning_in c.meet_all-2.new.self).version (plan_in c.meet_all-2.new.self).history
    c.args.lanes.now c.meet_all.new.lanes c.run_beside-told.new.lanes c.meet_all-2.new.lanes c.args.askers.now c.run_beside-told.new.askers c.args.rows.now c.run_beside-told.new.rows
    c.requires.server.some c.meet_all.ensures.from.2 c.args.writer.now.gate.0 (c.run_beside-told.new.writer.gate.0 ∙ ap (λ (m : Meaning Payload). m.version) (sym c.meet_all-2.ensures.meaning)) c.meet_all-2.ensures.plan.1 c.meet_all.ensures.lanes c.meet_all-2.ensures.lanes c.requires.rows.1 c.run_beside-told.ensures.told

pub returns-clause-server : goal.returns-clause-server
returns-clause-server g c =
    let server = c.requires.server in let long = c.meet_all.ensures.from.2 in let again = c.meet_all-2.ensures.from.2 in let same = zip_long (IsSameLane c.args.heap.now) c.meet_all.new.lanes c.run_beside-told.new.lanes c.run_beside-told.ensures.kept in
    let made = c.meet_all.ensures.plan.0 in let stays = c.run_beside-told.ensures.rechecked.made in let last = c.meet_all-2.ensures.plan.0 in let all = server.made in let some = server.some in let few = server.few in
    record { writer = c.meet_all-2.ensures.from.0; lanes = c.meet_all-2.ensures.from.1; made = omega arith; some = omega arith; few = omega arith }
