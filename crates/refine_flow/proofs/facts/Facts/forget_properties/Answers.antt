use Rattle.std.proofs.Common.{refl}
use Rattle.refine_flow.proofs.Dropping.{properties_forgotten}
use Rattle.refine_flow.proofs.facts.Facts.forget_properties.Goals as goal

pub invariant_of-self : goal.invariant_of-self
invariant_of-self c = record { tidy = λ s beyond. c.drop_properties.ensures.fresh s (c.args.self.now.tidy s beyond) }

pub returns : goal.returns
returns c = properties_forgotten c.args.self.now _ refl refl refl c.drop_properties.ensures
