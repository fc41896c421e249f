use Rattle.std.proofs.Common.{refl}
use Rattle.refine_flow.proofs.Assigning.{class_left_out}
use Rattle.refine_flow.proofs.facts.Facts.forget_class.Goals as goal

pub returns : goal.returns
returns c = class_left_out c.args.self.now _ c.args.constant refl refl refl c.drop_variables.ensures

pub invariant_of-self : goal.invariant_of-self
invariant_of-self c = record { tidy = λ s beyond. c.drop_variables.ensures.fresh s (c.args.self.now.tidy s beyond) }
