use Rattle.std.proofs.Common.{Bool, List, count_by, ap, ◌∙◌, subst, map}
use Rattle.std.proofs.lemmas.Result.{err_from_is_err_and}
use Rattle.recheck_reach.specs.analyst.specs.Work.{fronts_of, done, IsWithin}
use Rattle.recheck_run.proofs.Goes.{fronts_read, fronts_failed}
use Rattle.recheck_reach.specs.work_totals.specs.Totals.{total}
use Rattle.recheck_run.proofs.stepping.front_next.Goals as goal

pub returns-in_err-parses-clause-steps : goal.returns-in_err-parses-clause-steps
returns-in_err-parses-clause-steps g c =
    let p = err_from_is_err_and c.from_residual.result c.from_residual.ensures.1 in
    rw p.1 (fronts_failed c.reach_laws.ensures.fresh c.args.base.now _ _ c.requires.base (subst (λ (l : List Bool). IsWithin (total (map g.A.Analyst.work c.args.analysts.now)) (total (map g.A.Analyst.work c.edited_parses.new.analysts)) (fronts_of (count_by (λ on. on) l))) c.as_slice-fresh.ensures.value c.in_err-parses.ensures.work))

pub returns-clause-steps : goal.returns-clause-steps
returns-clause-steps g c =
    fronts_read c.reach_laws.ensures.fresh c.args.base.now c.in_ok-parses.parses _ _ c.requires.base
    (c.in_ok-parses.ensures.work ∙ ap (λ (l : List Bool). done (total (map g.A.Analyst.work c.args.analysts.now)) (fronts_of (count_by (λ on. on) l))) c.as_slice-fresh.ensures.value)
