use Rattle.std.proofs.Common.{◌≡◌, ℕ, List, length, map, sym, ap, subst, ◌∙◌}
use Rattle.std.specs.List.{AllZip}
use Rattle.std.proofs.lemmas.Result.{IfOk-weaker, err_from_is_err_and}
use Rattle.recheck_merging.specs.analyst.specs.Work.{IsWithin, done, checks_of}
use Rattle.recheck_merging.specs.work_totals.specs.Totals.{total}
use Rattle.recheck_merging.specs.work_totals.proofs.Totals.{law, done_anyhow}
use Rattle.recheck_merging.specs.worker_jobs.specs.Checking.{HasErrors}
use Rattle.recheck_merging.specs.check_job.specs.declared.job.CheckJob.{CheckJob}
use Rattle.recheck_merging.specs.check_phases.specs.Checking.{IsJobOf}
use Rattle.recheck_merging.specs.check_phases.proofs.Lists.{zip_length}
use Rattle.check_values.specs.declared.faults.Errs.{Errs}
use Rattle.recheck_checking.specs.Checking.{rows_by, IsCheckedBy}
use Rattle.recheck_checking.proofs.Puts.{jobs_checked}
use Rattle.recheck_checking.proofs.checking.errors_of.Goals as goal

pub returns-in_err-errors-clause-work : goal.returns-in_err-errors-clause-work
returns-in_err-errors-clause-work g c =
    let many : length c.as_slice.result.now ≡ length c.args.numbers.now = ap length c.as_slice.ensures.value ∙ zip_length (IsJobOf c.args.sources.now (rows_by c.args.sources.now c.args.signatures.now)) c.args.numbers.now c.in_ok-jobs.jobs.items c.in_ok-jobs.ensures in
    let p = err_from_is_err_and c.from_residual-in_err-errors.result c.from_residual-in_err-errors.ensures.1 in
    rw p.1 (subst (λ (n : ℕ). IsWithin (total (map g.A.Analyst.work c.args.analysts.now)) (total (map g.A.Analyst.work c.run_checks.new.analysts)) (checks_of n)) many (law.within _ _ _ c.in_err-errors.ensures.work))

pub returns-clause-errors : goal.returns-clause-errors
returns-clause-errors g c =
    IfOk-weaker c.shared_all.result _ _ (λ all shared. subst (λ (l : List Errs). AllZip (IsCheckedBy c.args.sources.now c.args.signatures.now) c.args.numbers.now l) (sym shared)
    (jobs_checked c.key_law.ensures.errors c.args.sources.now c.args.signatures.now c.requires.sources c.args.numbers.now c.in_ok-jobs.jobs.items c.in_ok-errors.errors c.in_ok-jobs.ensures
    (subst (λ (l : List CheckJob). AllZip HasErrors l c.in_ok-errors.errors) c.as_slice.ensures.value c.in_ok-errors.ensures.errors))) c.shared_all.ensures

pub returns-clause-work : goal.returns-clause-work
returns-clause-work g c =
    let many : length c.as_slice.result.now ≡ length c.args.numbers.now = ap length c.as_slice.ensures.value ∙ zip_length (IsJobOf c.args.sources.now (rows_by c.args.sources.now c.args.signatures.now)) c.args.numbers.now c.in_ok-jobs.jobs.items c.in_ok-jobs.ensures in
    done_anyhow c.shared_all.result _ (map g.A.Analyst.work c.args.analysts.now) (map g.A.Analyst.work c.run_checks.new.analysts) (law.done _ _ _ c.in_ok-errors.ensures.work ∙ ap (λ (n : ℕ). done (total (map g.A.Analyst.work c.args.analysts.now)) (checks_of n)) many)
