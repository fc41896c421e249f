use Rattle.fact_trail.specs.declared.trail.Change.TheVariants.{At, Variables as all_variables, Properties as all_properties}
use Rattle.fact_arms.proofs.Moving.{change_some}
use Rattle.fact_arms.proofs.difference.Difference.add_change.Goals as goal

pub returns-in-At : goal.returns-in-At
returns-in-At c = change_some c.add.result c.args.self.now c.add.new.self c.args.change (At c.in-At.slot c.in-At.fact) c.in-At.is c.add.ensures.made

pub returns-in-Variables : goal.returns-in-Variables
returns-in-Variables c = change_some c.add_class.result c.args.self.now c.add_class.new.self c.args.change (all_variables c.in-Variables.facts) c.in-Variables.is c.add_class.ensures

pub returns-in-Properties : goal.returns-in-Properties
returns-in-Properties c = change_some c.add_properties.result c.args.self.now c.add_properties.new.self c.args.change (all_properties c.in-Properties.properties) c.in-Properties.is c.add_properties.ensures
