use Rattle.std.proofs.Common.{subst}
use Rattle.std.proofs.lemmas.Result.{err_from_is_err_and}
use Rattle.recheck_run.specs.Stages.{Holds}
use Rattle.recheck_run.specs.declared.stages.Stage.TheVariants as stage
use Rattle.recheck_run.proofs.Goes.{of_each_same, leads_same, leads_also, merges_idle}
use Rattle.recheck_run.proofs.stepping.step.Goals as goal

pub returns-in_ok-next-in-Fronts-clause-leads : goal.returns-in_ok-next-in-Fronts-clause-leads
returns-in_ok-next-in-Fronts-clause-leads g c = of_each_same c.args.base.now c.args.stage stage.Fronts _ _ c.in-Fronts.is c.in_ok-next-in-Fronts.ensures.steps

pub returns-in_ok-next-in-Lists-clause-leads : goal.returns-in_ok-next-in-Lists-clause-leads
returns-in_ok-next-in-Lists-clause-leads g c = of_each_same c.args.base.now c.args.stage (stage.Lists c.in-Lists.parses) _ _ c.in-Lists.is (c.in_ok-next-in-Lists.ensures.steps _ c.counted.ensures)

pub returns-then-merging-wave_count-clause-leads : goal.returns-then-merging-wave_count-clause-leads
returns-then-merging-wave_count-clause-leads g c = of_each_same c.args.base.now c.args.stage (stage.Merges c.in-Merges.merging) _ _ c.in-Merges.is c.in_ok-next-in-Merges.ensures.steps

pub returns-in_err-next-in-Merges-clause-leads : goal.returns-in_err-next-in-Merges-clause-leads
returns-in_err-next-in-Merges-clause-leads g c =
    let p = err_from_is_err_and c.from_residual-in_err-next-in-Merges.result c.from_residual-in_err-next-in-Merges.ensures.1 in
    rw p.1 (of_each_same c.args.base.now c.args.stage (stage.Merges c.in-Merges.merging) _ _ c.in-Merges.is c.in_err-next-in-Merges.ensures.steps)

pub returns-in_err-checking-in-Merges-clause-leads : goal.returns-in_err-checking-in-Merges-clause-leads
returns-in_err-checking-in-Merges-clause-leads g c =
    let p = err_from_is_err_and c.from_residual-in_err-checking-in-Merges.result c.from_residual-in_err-checking-in-Merges.ensures.1 in
    rw p.1 (of_each_same c.args.base.now c.args.stage (stage.Merges c.in-Merges.merging) _ _ c.in-Merges.is (merges_idle c.members_add_up.ensures c.args.base.now c.in-Merges.merging (subst (Holds c.args.base.now) c.in-Merges.is c.requires.holds) _))

pub returns-in_ok-checking-in-Merges-clause-leads : goal.returns-in_ok-checking-in-Merges-clause-leads
returns-in_ok-checking-in-Merges-clause-leads g c =
    leads_same c.args.base.now c.args.stage (stage.Merges c.in-Merges.merging) _ _ _ c.in-Merges.is
    (leads_also c.args.base.now (stage.Merges c.in-Merges.merging) (stage.Checks c.in_ok-checking-in-Merges.checking) _ _ _ c.in_ok-checking-in-Merges.ensures.also c.check_next.ensures.leads)
