use Rattle.std.proofs.Common.{ℕ, ap, map, subst, ◌∙◌}
use Rattle.std.proofs.lemmas.Result.{IfOk-weaker, err_from_is_err_and}
use Rattle.check_phases.specs.analyst.specs.Work.{IsWithin, done, fronts_of}
use Rattle.work_totals.specs.Totals.{total}
use Rattle.work_totals.proofs.Totals.{law, done_anyhow}
use Rattle.recheck_sources.proofs.Fresh.{many_texts, said_of}
use Rattle.recheck_sources.proofs.parsing.fresh_parses.Goals as goal

pub returns-in_err-said-clause-work : goal.returns-in_err-said-clause-work
returns-in_err-said-clause-work g c =
    let many = many_texts c.args.fresh.now c.args.modules.now c.in_ok-texts.texts c.as_slice.result.now c.requires.many c.in_ok-texts.ensures c.as_slice.ensures in
    let p = err_from_is_err_and c.from_residual-in_err-said.result c.from_residual-in_err-said.ensures.1 in
    rw p.1 (subst (λ (n : ℕ). IsWithin (total (map g.A.Analyst.work c.args.analysts.now)) (total (map g.A.Analyst.work c.run_fronts.new.analysts)) (fronts_of n)) many (law.within _ _ _ c.in_err-said.ensures.work))

pub returns-clause-parses : goal.returns-clause-parses
returns-clause-parses g c =
    IfOk-weaker c.shared_all.result _ _ (λ all shared. said_of c.args.fresh.now c.args.modules.now c.in_ok-texts.texts c.as_slice.result.now c.in_ok-said.said all.items c.in_ok-texts.ensures c.as_slice.ensures c.in_ok-said.ensures.parses shared) c.shared_all.ensures

pub returns-clause-work : goal.returns-clause-work
returns-clause-work g c =
    let many = many_texts c.args.fresh.now c.args.modules.now c.in_ok-texts.texts c.as_slice.result.now c.requires.many c.in_ok-texts.ensures c.as_slice.ensures in
    done_anyhow c.shared_all.result _ (map g.A.Analyst.work c.args.analysts.now) (map g.A.Analyst.work c.run_fronts.new.analysts) (law.done _ _ _ c.in_ok-said.ensures.work ∙ ap (λ (n : ℕ). done (total (map g.A.Analyst.work c.args.analysts.now)) (fronts_of n)) many)
