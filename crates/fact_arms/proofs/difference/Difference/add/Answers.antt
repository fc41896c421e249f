use Rattle.fact_arms.proofs.Over.{added_settled}
use Rattle.fact_arms.proofs.difference.Difference.add.Goals as goal

pub returns-then-settles-clause-made : goal.returns-then-settles-clause-made
returns-then-settles-clause-made c = added_settled c.args.self.now c.args.slot c.args.fact c.settles.result c.settles.ensures c.if-settles.true
