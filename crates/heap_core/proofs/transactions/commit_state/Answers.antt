use Rattle.std.proofs.Common.{◌∙◌, length, map}
use Rattle.std.proofs.lemmas.List.{length-map}
use Rattle.std.specs.Arc.{arc_value}
use Rattle.heap_core.proofs.TransactionLaws.{given_up, committed_whole}
use Rattle.heap_core.proofs.transactions.commit_state.Goals as goal

pub returns-in-Ok-clause-ok : goal.returns-in-Ok-clause-ok
returns-in-Ok-clause-ok g c =
    let many = length-map c.args.state.now arc_value in
    committed_whole g.P.Program.fits (g.W.HeapWriter.meaning c.args.writer.now) (g.W.HeapWriter.meaning c.begin.new.self) (g.W.HeapWriter.meaning c.stage_state.new.writer) _ (map arc_value c.args.state.now) (length c.args.state.now)
    (g.met.W.HeapWriter.sound c.args.writer.now) c.begin.ensures.meaning c.stage_state.ensures.staging c.in-Ok.ensures.latest c.in-Ok.ensures.staged many (many ∙ c.requires.entities) c.commit.ensures.meaning

pub returns-in-Err-clause-err : goal.returns-in-Err-clause-err
returns-in-Err-clause-err g c =
    given_up g.P.Program.fits (g.W.HeapWriter.meaning c.args.writer.now) (g.W.HeapWriter.meaning c.begin.new.self) (g.W.HeapWriter.meaning c.stage_state.new.writer) _ (g.met.W.HeapWriter.sound c.args.writer.now)
    (g.met.W.HeapWriter.sound c.stage_state.new.writer) c.requires.closed.0 c.begin.ensures.meaning c.stage_state.ensures.staging c.rollback.ensures.meaning
