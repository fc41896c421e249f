use Rattle.std.proofs.Common.{rules}
use Rattle.script_run.specs.Session.{standing_in}
use Rattle.script_run.specs.Steps.{walk_state}
use Rattle.script_run.proofs.Walks.{on_err, breaks_off}
use Rattle.script_run.proofs.walk.answer.Goals as goal

pub returns-clause-breaks : goal.returns-clause-breaks
returns-clause-breaks g c =
    on_err _ _ (breaks_off _ _ _ (walk_state (standing_in c.turn.new.self) (g.F.Folder.seen c.turn.new.folder) (g.K.Sink.seen c.print.new.out)) _ _ _ (search rules) c.print.ensures.front c.in_ok-printed.ensures.turned)
