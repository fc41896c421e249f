use Rattle.fact_trail.specs.declared.slot.Slot.TheVariants.{Variable, Property}
use Rattle.fact_arms.proofs.Over.{says_at}
use Rattle.fact_arms.proofs.difference.Difference.say.Goals as goal

pub returns-in-Variable-clause-said : goal.returns-in-Variable-clause-said
returns-in-Variable-clause-said c = says_at c.say_variable.result c.args.self.now c.say_variable.new.self c.args.slot (Variable c.in-Variable.binding) c.args.fact c.in-Variable.is c.say_variable.ensures.said

pub returns-in-Property-clause-said : goal.returns-in-Property-clause-said
returns-in-Property-clause-said c = says_at c.say_property.result c.args.self.now c.say_property.new.self c.args.slot (Property c.in-Property.key) c.args.fact c.in-Property.is c.say_property.ensures.said
