use Rattle.std.proofs.Common.{arith}
use Rattle.std.proofs.lemmas.Result.{err_from_is_err_and}
use Rattle.recheck_run.proofs.Goes.{checks_end, checks_idle}
use Rattle.recheck_run.proofs.stepping.check_next.Goals as goal

pub returns-in_err-staged-clause-leads : goal.returns-in_err-staged-clause-leads
returns-in_err-staged-clause-leads g c =
    let p = err_from_is_err_and c.from_residual-in_err-staged.result c.from_residual-in_err-staged.ensures.1 in
    rw p.1 (checks_idle c.args.base.now c.args.checking _ c.requires.checking.low)

pub returns-clause-leads : goal.returns-clause-leads
returns-clause-leads g c = checks_end c.args.base.now c.args.checking c.reach_laws.ensures.fresh c.in_ok-staged.staged _ c.requires.base.base (let past = c.if-checking-len.false in let many = c.len.ensures in omega (arith, past, many)) c.in_ok-staged.ensures.parsed c.in_ok-staged.ensures.checked
