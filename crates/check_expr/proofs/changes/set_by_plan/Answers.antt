use Rattle.check_expr.proofs.Planned.{inner_planned}
use Rattle.check_expr.proofs.changes.set_by_plan.Goals as goal

pub returns : goal.returns
returns c = inner_planned c.in_ok-names.names c.args.plan.now c.as_slice.result.now c.as_slice.ensures c.in_ok-names.ensures
