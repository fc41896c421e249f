use Rattle.std.proofs.Common.{refl}
use Rattle.std.proofs.lemmas.Result.{err_from_is_err_and}
use Rattle.recheck_run.proofs.Dones.{staged_ok, halted_err, halted_reading, never_stops, quiet_err}
use Rattle.recheck_run.proofs.rechecking.stage_edited.Goals as goal

pub returns-in_err-base-clause-err : goal.returns-in_err-base-clause-err
returns-in_err-base-clause-err g c =
    let p = err_from_is_err_and c.from_residual.result c.from_residual.ensures.1 in
    rw p.1 (halted_reading c.each_full.ensures _ _ _ p.0 c.sound.ensures c.counted.ensures c.bounded.ensures.0 refl refl c.in_err-base.ensures.fault p.2)

pub returns-in_err-base-clause-stopped : goal.returns-in_err-base-clause-stopped
returns-in_err-base-clause-stopped g c =
    let p = err_from_is_err_and c.from_residual.result c.from_residual.ensures.1 in
    rw p.1 (λ stop. never_stops _ p.0 p.2 stop)

pub returns-clause-ok : goal.returns-clause-ok
returns-clause-ok g c = staged_ok _ _ _ c.in_ok-base.base c.each_full.ensures c.in_ok-base.ensures.base c.in_ok-base.ensures.few c.in_ok-base.ensures.edited c.run.ensures.ready c.run.ensures.ended

pub returns-clause-err : goal.returns-clause-err
returns-clause-err g c = halted_err _ _ _ c.in_ok-base.base c.each_full.ensures c.in_ok-base.ensures.base c.in_ok-base.ensures.edited c.run.ensures.halted

pub returns-clause-stopped : goal.returns-clause-stopped
returns-clause-stopped g c = quiet_err _ _ _ c.in_ok-base.ensures.quiet
