use Rattle.fact_trail.specs.declared.slot.Slot.TheVariants.{Variable, Property}
use Rattle.fact_arms.proofs.Taking.{took_at}
use Rattle.fact_arms.proofs.difference.Difference.take_said.Goals as goal

pub returns-in-Variable-clause-said : goal.returns-in-Variable-clause-said
returns-in-Variable-clause-said c = took_at c.args.self.now c.take_variable.new.self c.args.slot (Variable c.in-Variable.binding) c.in-Variable.is c.take_variable.ensures.said

pub returns-in-Property-clause-said : goal.returns-in-Property-clause-said
returns-in-Property-clause-said c = took_at c.args.self.now c.take_property.new.self c.args.slot (Property c.in-Property.key) c.in-Property.is c.take_property.ensures.said
