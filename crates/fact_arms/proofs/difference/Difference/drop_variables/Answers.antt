use Rattle.std.proofs.Common.{refl}
use Rattle.fact_arms.proofs.Settling.{variables_stay, variables_again}
use Rattle.fact_arms.proofs.difference.Difference.drop_variables.Goals as goal

pub returns-then-not-has_some_variables-clause-said : goal.returns-then-not-has_some_variables-clause-said
returns-then-not-has_some_variables-clause-said c = variables_stay c.args.arm.now c.args.self.now c.has_some_variables.result c.has_some_variables.ensures c.if-not-has_some_variables.true

pub returns-clause-said : goal.returns-clause-said
returns-clause-said c = variables_again c.say_again.result c.args.arm.now c.args.self.now c.new-rest.result (record c.new-rest.result { variables = c.swap.new.x }) (record c.args.self.now { variables = c.swap.new.y }) c.say_again.new.self c.new-rest.ensures.said refl c.swap.ensures.x_after refl c.swap.ensures.y_after c.say_again.ensures.said
