use Rattle.std.proofs.Common.{inl}
use Rattle.recheck_run.proofs.Planned.{nothing_planned, nothing_touched}
use Rattle.recheck_run.proofs.merging.plan_touched.Goals as goal

pub returns-then-is_empty-clause-plan : goal.returns-then-is_empty-clause-plan
returns-then-is_empty-clause-plan c = nothing_planned c.args.sources.now c.args.touched.now _ c.is_empty.result c.is_empty.ensures c.if-is_empty.true c.nothing_to_merge.ensures

pub returns-then-is_empty-clause-edges : goal.returns-then-is_empty-clause-edges
returns-then-is_empty-clause-edges c = inl (nothing_touched c.args.touched.now c.is_empty.result c.is_empty.ensures c.if-is_empty.true)
