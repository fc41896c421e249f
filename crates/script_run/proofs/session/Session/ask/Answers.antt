use Rattle.std.proofs.Common.{ap, ◌∙◌}
use Rattle.beside.specs.Server.{uses_of}
use Rattle.beside.specs.Writers.{meaning_in}
use Rattle.script_run.proofs.Asked.{asked_there}
use Rattle.script_run.proofs.session.Session.ask.Goals as goal

pub returns-clause-asked : goal.returns-clause-asked
returns-clause-asked g c =
    asked_there (meaning_in c.self.inside.server.writer) (meaning_in c.answer_first-told.new.self.writer) c.self.inside.edits (uses_of c.self.inside.server.lanes) (uses_of c.answer_first-told.new.self.lanes) c.args.self.now c.args.ask.now
    c.answer_first-told.result c.in_ok-text.text c.in_ok-from_slice.field-0.items c.self.view_is c.answer_first-told.ensures.writer.meaning c.answer_first-told.ensures.told c.answer_first-told.ensures.lanes c.in_ok-text.ensures
    (c.in_ok-from_slice.ensures.items ∙ c.as_bytes.ensures)
