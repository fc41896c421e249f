use Rattle.std.proofs.Common.{◌≡◌, [], List, length, get_or, map, sum_by, sym, ap, ◌∙◌, subst, rules}
use Rattle.std.specs.List.{AllZip}
use Rattle.std.proofs.lemmas.Result.{err_from_is_err_and}
use Rattle.check_values.specs.declared.signatures.Sig.{Sig}
use Rattle.job_ends.specs.Jobs.{job_view}
use Rattle.job_ends.specs.declared.job.MergeJob.{MergeJob}
use Rattle.check_phases.proofs.Works.{within_same, members_done, members_within}
use Rattle.recheck_merging.specs.Merging.{job_in, AreSigsOf}
use Rattle.recheck_merging.specs.Still.{lacking}
use Rattle.recheck_merging.proofs.Merged.{members_summed, wave_signed, zip_inside}
use Rattle.recheck_merging.proofs.Unmoved.{lacking_has}
use Rattle.recheck_merging.proofs.merging.wave_signatures.Goals as goal

pub returns-in_err-told-clause-work : goal.returns-in_err-told-clause-work
returns-in_err-told-clause-work g c =
    let p = err_from_is_err_and c.from_residual-in_err-told.result c.from_residual-in_err-told.ensures.1 in
    let asked : c.as_slice-asked.result.now ≡ c.in_ok-jobs.jobs = search rules in
    let many = ap (sum_by (λ (job : MergeJob). length job.members)) asked ∙ members_summed c.args.edit.now.plan.now (lacking (get_or c.args.edit.now.plan.now.waves c.args.wave []) c.args.olds.now) c.in_ok-jobs.jobs c.in_ok-jobs.ensures.many in
    rw p.1 (members_within _ _ _ _ many (c.totals_rise.ensures.within _ _ _ c.in_err-told.ensures.work))

pub returns-in_err-shared-clause-work : goal.returns-in_err-shared-clause-work
returns-in_err-shared-clause-work g c =
    let p = err_from_is_err_and c.from_residual-in_err-shared.result c.from_residual-in_err-shared.ensures.1 in
    let asked : c.as_slice-asked.result.now ≡ c.in_ok-jobs.jobs = search rules in
    let many = ap (sum_by (λ (job : MergeJob). length job.members)) asked ∙ members_summed c.args.edit.now.plan.now (lacking (get_or c.args.edit.now.plan.now.waves c.args.wave []) c.args.olds.now) c.in_ok-jobs.jobs c.in_ok-jobs.ensures.many in
    rw p.1 (within_same _ _ _ (c.totals_rise.ensures.counted (map g.A.Analyst.work c.args.analysts.now)) (members_done _ _ _ _ many (c.totals_rise.ensures.done _ _ _ c.in_ok-told.ensures.work)))

pub returns-clause-signatures : goal.returns-clause-signatures
returns-clause-signatures g c =
    let wave = get_or c.args.edit.now.plan.now.waves c.args.wave [] in
    let asked : c.as_slice-asked.result.now ≡ c.in_ok-jobs.jobs = search rules in
    let of_jobs : map job_view c.as_slice-asked.result.now ≡ map (job_in c.args.edit.now.sources.now c.args.edit.now.plan.now c.args.slots.now) (lacking wave c.args.olds.now) = ap (map job_view) asked ∙ c.in_ok-jobs.ensures.jobs in
    let told = wave_signed c.a_job_tells_the_program.ensures c.asked_is_enough.ensures.jobs c.args.edit.now.sources.now c.args.edit.now.plan.now c.args.wave (lacking wave c.args.olds.now) c.args.slots.now c.as_slice-asked.result.now c.in_ok-told.told c.requires.sources c.requires.plan c.requires.wave c.requires.merged
    (lacking_has wave c.args.olds.now) of_jobs c.in_ok-told.ensures.signatures in
    zip_inside (AreSigsOf c.args.edit.now.sources.now c.args.edit.now.plan.now) _ (lacking wave c.args.olds.now) c.in_ok-shared.shared.items (subst (λ (all : List (List Sig)). AllZip (AreSigsOf c.args.edit.now.sources.now c.args.edit.now.plan.now) (lacking wave c.args.olds.now) all) (sym c.in_ok-shared.ensures) told)

pub returns-clause-work : goal.returns-clause-work
returns-clause-work g c =
    let asked : c.as_slice-asked.result.now ≡ c.in_ok-jobs.jobs = search rules in
    let many = ap (sum_by (λ (job : MergeJob). length job.members)) asked ∙ members_summed c.args.edit.now.plan.now (lacking (get_or c.args.edit.now.plan.now.waves c.args.wave []) c.args.olds.now) c.in_ok-jobs.jobs c.in_ok-jobs.ensures.many in
    members_done _ _ _ _ many (c.totals_rise.ensures.done _ _ _ c.in_ok-told.ensures.work)
