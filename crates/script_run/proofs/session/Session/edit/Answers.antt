use Rattle.pending_edits.specs.declared.edit.Edit.TheVariants.{Put}
use Rattle.beside.specs.Server.{uses_of}
use Rattle.beside.specs.Writers.{meaning_in}
use Rattle.script_run.proofs.Sessions.{edited_there}
use Rattle.script_run.proofs.session.Session.edit.Goals as goal

pub returns-clause-edited : goal.returns-clause-edited
returns-clause-edited g c =
    edited_there c.put_text-put.result c.edit_line.result (λ text. text.items) (meaning_in c.self.inside.server.writer) c.self.inside.edits c.put_text-put.new.edits (uses_of c.self.inside.server.lanes) c.args.self.now c.args.path (Put c.args.text)
    c.self.view_is c.put_text-put.ensures.ok c.put_text-put.ensures.err c.put_text-put.ensures.too_many c.edit_line.ensures
