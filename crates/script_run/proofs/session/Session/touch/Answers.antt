use Rattle.pending_edits.specs.declared.edit.Edit.TheVariants.{Touch}
use Rattle.beside.specs.Server.{uses_of}
use Rattle.beside.specs.Writers.{meaning_in}
use Rattle.script_run.proofs.Sessions.{edited_there}
use Rattle.script_run.proofs.session.Session.touch.Goals as goal

pub returns-clause-touched : goal.returns-clause-touched
returns-clause-touched g c =
    edited_there c.touch_path-put.result c.edit_line.result (λ text. text.items) (meaning_in c.self.inside.server.writer) c.self.inside.edits c.touch_path-put.new.edits (uses_of c.self.inside.server.lanes) c.args.self.now c.args.path Touch
    c.self.view_is c.touch_path-put.ensures.ok c.touch_path-put.ensures.err c.touch_path-put.ensures.too_many c.edit_line.ensures
