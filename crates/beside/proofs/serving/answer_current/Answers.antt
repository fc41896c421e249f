use Rattle.std.proofs.Common.{ap}
use Rattle.request_core.specs.payloads.specs.declared.payload.Payload.{Payload}
use Rattle.entity_heap.specs.declared.board.Visit.{Visit}
use Rattle.entity_heap.specs.Lanes.{visit_in}
use Rattle.beside.specs.Beside.{AnswersFrom, WorksAs}
use Rattle.beside.proofs.Served.{told_current}
use Rattle.beside.proofs.serving.answer_current.Goals as goal

pub returns-clause-told : goal.returns-clause-told
returns-clause-told g c =
    let t =
    told_current AnswersFrom (WorksAs g.A.Analyst.work) c.args.writer.now c.meet.new.self (visit_in c.meet.new.lane) (visit_in c.answer_pinned-told.new.lane) c.args.asker.now c.answer_pinned-told.new.asker c.args.ask.now c.answer_pinned-told.result
    c.answer_pinned-told.ensures.told c.meet.ensures.meaning (ap (λ (v : Visit Payload). v.floor) c.meet.ensures.lane) c.meet-2.ensures.states in
    record { version = t.0; answer = t.1 }
