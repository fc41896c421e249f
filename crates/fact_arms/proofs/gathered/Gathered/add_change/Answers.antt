use Rattle.std.proofs.Common.{refl}
use Rattle.fact_arms.proofs.Settling.{settled_change}
use Rattle.fact_arms.proofs.gathered.Gathered.add_change.Goals as goal

pub returns-clause-settled : goal.returns-clause-settled
returns-clause-settled c =
    settled_change c.add_change.result c.args.self.now c.stir.new.self c.add_change.new.self _ c.args.change refl refl c.in_ok-stir.ensures.slots c.in_ok-stir.ensures.classes c.add_change.ensures
