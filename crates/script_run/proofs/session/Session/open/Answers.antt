use Rattle.std.proofs.Common.{sym}
use Rattle.beside.specs.Server.{uses_of}
use Rattle.beside.specs.Writers.{meaning_in}
use Rattle.script_run.proofs.PendingEdits.{ready_empty}
use Rattle.script_run.proofs.session.Session.open.Goals as goal

pub invariant_of-result : goal.invariant_of-result
invariant_of-result g c = (
  ready_empty (meaning_in c.args.server.writer) c.args.modules c.in_ok-edits.edits (uses_of c.args.server.lanes) c.requires.new.empty c.in_ok-edits.ensures.capacity c.in_ok-edits.ensures.few c.in_ok-edits.ensures.stands,
  c.requires.new.running,
  c.requires.some,
  sym c.requires.new.many,
)
