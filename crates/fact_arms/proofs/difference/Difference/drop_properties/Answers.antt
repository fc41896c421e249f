use Rattle.std.proofs.Common.{refl}
use Rattle.fact_arms.proofs.Settling.{properties_stay, properties_again}
use Rattle.fact_arms.proofs.difference.Difference.drop_properties.Goals as goal

pub returns-then-not-arm-clause-said : goal.returns-then-not-arm-clause-said
returns-then-not-arm-clause-said c = properties_stay c.args.arm.now c.args.self.now c.if-not-arm.true

pub returns-clause-said : goal.returns-clause-said
returns-clause-said c = properties_again c.say_again.result c.args.arm.now c.args.self.now c.new-rest.result (record c.new-rest.result { properties = c.swap.new.x }) (record c.args.self.now { properties = c.swap.new.y }) c.say_again.new.self c.new-rest.ensures.said refl c.swap.ensures.x_after refl c.swap.ensures.y_after c.say_again.ensures.said
