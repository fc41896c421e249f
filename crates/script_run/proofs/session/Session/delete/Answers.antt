use Rattle.std.proofs.Common.{length}
use Rattle.beside.specs.Server.{uses_of}
use Rattle.beside.specs.Writers.{meaning_in}
use Rattle.script_run.proofs.PendingEdits.{still_ready}
use Rattle.script_run.proofs.Sessions.{deleted_there}
use Rattle.script_run.proofs.session.Session.delete.Goals as goal

pub returns-clause-deleted : goal.returns-clause-deleted
returns-clause-deleted g c =
    deleted_there (meaning_in c.self.inside.server.writer) c.self.inside.edits c.delete_path.new.edits (uses_of c.self.inside.server.lanes) c.args.self.now c.args.path _ c.self.view_is c.in_ok-delete_path.ensures.ok c.new.ensures.items

pub invariant_of-self : goal.invariant_of-self
invariant_of-self g c =
    still_ready c.self.inside.server c.self.inside.edits c.delete_path.new.edits (length c.self.inside.analysts.items) (length c.self.inside.askers.items) c.self.invariant c.delete_path.ensures.no_more c.delete_path.ensures.stands
    c.delete_path.ensures.capacity

pub invariant_of-self-2 : goal.invariant_of-self-2
invariant_of-self-2 g c =
    still_ready c.self.inside.server c.self.inside.edits c.delete_path.new.edits (length c.self.inside.analysts.items) (length c.self.inside.askers.items) c.self.invariant c.delete_path.ensures.no_more c.delete_path.ensures.stands
    c.delete_path.ensures.capacity
