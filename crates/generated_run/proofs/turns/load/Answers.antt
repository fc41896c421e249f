use Rattle.std.proofs.Common.{rules, refl, length}
use Rattle.std.proofs.lemmas.Result.{err_from_is_err_and}
use Rattle.script_run.specs.declared.ending.RunFault.TheVariants.{SinkFault}
use Rattle.script_run.specs.Session.{standing_in}
use Rattle.script_run.specs.Transcript.{start}
use Rattle.script_run.proofs.Walks.{on_err, counts_handed}
use Rattle.flow_base.specs.Program.{paths_of}
use Rattle.generated_run.specs.Steps.{Loads}
use Rattle.generated_run.proofs.OneRun.{some_recheck}
use Rattle.generated_run.proofs.Parts.{unbegun, done_by, begun_by, quiet_load, done_version, load_lanes}
use Rattle.generated_run.proofs.turns.load.Goals as goal

pub returns-in_err-session-clause-front : goal.returns-in_err-session-clause-front
returns-in_err-session-clause-front g c =
    on_err c.from_residual.result _ (unbegun (Loads (length c.args.askers.items) c.args.folder.now) (some_recheck c.each_edit_has_sizes.ensures c.args.folder.now (start (paths_of c.args.folder.now) (length c.args.askers.items))) _ _ refl)

pub returns-in_err-printed-clause-front : goal.returns-in_err-printed-clause-front
returns-in_err-printed-clause-front g c =
    on_err c.from_residual-in_err-printed.result _ (unbegun (Loads (length c.args.askers.items) c.args.folder.now) (some_recheck c.each_edit_has_sizes.ensures c.args.folder.now (start (paths_of c.args.folder.now) (length c.args.askers.items))) _ _ refl)

pub returns-in_err-print-clause-front : goal.returns-in_err-print-clause-front
returns-in_err-print-clause-front g c =
    on_err c.from_residual-in_err-print.result _
    (begun_by (Loads (length c.args.askers.items) c.args.folder.now) (standing_in c.recheck.new.self) _ _ _ _ c.as_slice.ensures.value
    (quiet_load (length c.args.askers.items) c.args.folder.now (standing_in c.in_ok-session.session) (standing_in c.recheck.new.self) _ _ _ (search rules) refl refl refl c.in_ok-printed.ensures.rechecked) c.print.ensures.front)

pub returns-in_err-print-clause-counts : goal.returns-in_err-print-clause-counts
returns-in_err-print-clause-counts g c =
    let p = err_from_is_err_and c.from_residual-in_err-print.result c.from_residual-in_err-print.ensures.1 in
    counts_handed c.print.result c.from_residual-in_err-print.result p.0 _ SinkFault _ _ _ c.in_err-print.was p.1 p.2 refl c.print.ensures.counts

pub returns-clause-loaded : goal.returns-clause-loaded
returns-clause-loaded g c =
    done_by (Loads (length c.args.askers.items) c.args.folder.now) (standing_in c.recheck.new.self) _ _ _ _ c.as_slice.ensures.value
    (quiet_load (length c.args.askers.items) c.args.folder.now (standing_in c.in_ok-session.session) (standing_in c.recheck.new.self) _ _ _ (search rules) refl refl refl c.in_ok-printed.ensures.rechecked) c.in_ok-print.ensures.ok

pub returns-clause-version : goal.returns-clause-version
returns-clause-version g c =
    done_version (length c.args.askers.items) c.args.folder.now (standing_in c.recheck.new.self) _
    (quiet_load (length c.args.askers.items) c.args.folder.now (standing_in c.in_ok-session.session) (standing_in c.recheck.new.self) _ _ _ (search rules) refl refl refl c.in_ok-printed.ensures.rechecked)

pub returns-clause-lanes : goal.returns-clause-lanes
returns-clause-lanes g c =
    load_lanes (length c.args.askers.items) c.args.folder.now (standing_in c.recheck.new.self) _
    (quiet_load (length c.args.askers.items) c.args.folder.now (standing_in c.in_ok-session.session) (standing_in c.recheck.new.self) _ _ _ (search rules) refl refl refl c.in_ok-printed.ensures.rechecked)
