use Rattle.fact_trail.specs.declared.slot.Slot.TheVariants.{Variable, Property}
use Rattle.fact_arms.proofs.Freshening.{added_at}
use Rattle.fact_arms.proofs.fresh.Fresh.add.Goals as goal

pub returns-in-Variable-clause-slots : goal.returns-in-Variable-clause-slots
returns-in-Variable-clause-slots c = added_at c.add_variable.result c.args.self.now c.add_variable.new.self c.args.slot (Variable c.in-Variable.binding) c.in-Variable.is c.add_variable.ensures.slots

pub returns-in-Property-clause-slots : goal.returns-in-Property-clause-slots
returns-in-Property-clause-slots c = added_at c.add_property.result c.args.self.now c.add_property.new.self c.args.slot (Property c.in-Property.key) c.in-Property.is c.add_property.ensures.slots
