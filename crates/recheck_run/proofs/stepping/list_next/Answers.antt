use Rattle.std.proofs.lemmas.Result.{err_from_is_err_and}
use Rattle.recheck_run.proofs.Goes.{lists_made, lists_failed}
use Rattle.recheck_run.proofs.stepping.list_next.Goals as goal

pub returns-in_err-merging-clause-steps : goal.returns-in_err-merging-clause-steps
returns-in_err-merging-clause-steps c = λ work low. let p = err_from_is_err_and c.from_residual.result c.from_residual.ensures.1 in rw p.1 (lists_failed c.args.base.now c.args.parses work)

pub returns-clause-steps : goal.returns-clause-steps
returns-clause-steps c = λ work low. lists_made c.one_full.ensures c.reach_laws.ensures.seen c.plans_are_of_merged.ensures c.args.base.now c.in_ok-merging.merging c.args.parses work c.requires.base c.in_ok-merging.ensures.merging c.in_ok-merging.ensures.wave
