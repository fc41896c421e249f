use Rattle.std.proofs.Common.{Result, Ok, Err, OnErr, sym, ap, ◌∙◌, subst}
use Rattle.fact_trail.specs.Plans.{planned, Fits}
use Rattle.fact_trail.proofs.Planning.{extends_same, extends_made}
use Rattle.fact_trail.proofs.trail.Trail.make_planned.Goals as goal

on_err : {T E : Type 0} (r : Result T E) (P : Type 0) → P → OnErr r P
on_err (Ok x) P is = tt
on_err (Err x) P is = is

pub returns-in_err-reserve-clause-err : goal.returns-in_err-reserve-clause-err
returns-in_err-reserve-clause-err c = on_err c.from_residual.result _ c.reserve.ensures.same.0

pub returns-in_err-reserve-clause-extends : goal.returns-in_err-reserve-clause-extends
returns-in_err-reserve-clause-extends c = extends_same c.args.self.now c.reserve.new.self c.reserve.ensures.same

pub carry_out-requires-clause-fits : goal.carry_out-requires-clause-fits
carry_out-requires-clause-fits c = subst (Fits c.args.plan.items) (sym c.reserve.ensures.same.0) c.requires

pub returns-clause-facts : goal.returns-clause-facts
returns-clause-facts c = c.carry_out.ensures.facts ∙ ap (planned c.args.plan.items) c.reserve.ensures.same.0

pub returns-clause-extends : goal.returns-clause-extends
returns-clause-extends c = extends_made c.args.self.now c.reserve.new.self c.carry_out.new.self c.reserve.ensures.same c.carry_out.ensures.extends
