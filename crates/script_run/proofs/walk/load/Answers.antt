use Rattle.std.proofs.Common.{refl}
use Rattle.std.proofs.lemmas.Result.{err_from_is_err_and}
use Rattle.script_run.specs.declared.ending.RunFault.TheVariants.{SinkFault}
use Rattle.script_run.specs.Session.{standing_in}
use Rattle.script_run.specs.Steps.{walk_state}
use Rattle.script_run.proofs.Walks.{on_err, counts_handed, breaks_load}
use Rattle.script_run.proofs.walk.load.Goals as goal

pub returns-in_err-print-clause-front : goal.returns-in_err-print-clause-front
returns-in_err-print-clause-front g c =
    on_err _ _ (breaks_load _ (walk_state (standing_in c.recheck.new.self) (g.F.Folder.seen c.recheck.new.folder) (g.K.Sink.seen c.print.new.out)) (standing_in c.in_ok-session.session) _ _ _ c.in_ok-session.ensures.standing c.as_slice.ensures.value c.print.ensures.front c.in_ok-line.ensures.rechecked)

pub returns-in_err-print-clause-counts : goal.returns-in_err-print-clause-counts
returns-in_err-print-clause-counts g c =
    let p = err_from_is_err_and c.from_residual-in_err-print.result c.from_residual-in_err-print.ensures.1 in
    counts_handed c.print.result c.from_residual-in_err-print.result p.0 _ SinkFault _ _ _ c.in_err-print.was p.1 p.2 refl c.print.ensures.counts
