use Rattle.fact_trail.specs.Slots.{is_variable}
use Rattle.fact_trail.specs.Moments.{map_of}
use Rattle.fact_arms.specs.Differences.{class_gone}
use Rattle.fact_arms.proofs.Making.{made_gone, made_stays, goes_itself, goes_dropped}
use Rattle.fact_arms.proofs.difference.Difference.make_class_gone.Goals as goal

pub returns-then-has_variables-clause-made : goal.returns-then-has_variables-clause-made
returns-then-has_variables-clause-made c =
    made_gone (is_variable c.args.constant) c.has_variables.result (class_gone c.args.self.now.gone c.args.constant) c.args.trail.now c.drop_variables.new.self c.has_variables.ensures c.if-has_variables.true c.drop_variables.ensures

pub returns-then-has_variables-clause-goes : goal.returns-then-has_variables-clause-goes
returns-then-has_variables-clause-goes c = goes_dropped c.args.self.now (is_variable c.args.constant) c.args.trail.now c.drop_variables.new.self c.drop_variables.ensures

pub returns-else-has_variables-clause-made : goal.returns-else-has_variables-clause-made
returns-else-has_variables-clause-made c = made_stays (is_variable c.args.constant) c.has_variables.result (class_gone c.args.self.now.gone c.args.constant) (map_of c.args.trail.now) c.has_variables.ensures c.if-has_variables.false

pub returns-else-has_variables-clause-goes : goal.returns-else-has_variables-clause-goes
returns-else-has_variables-clause-goes c = goes_itself c.args.self.now c.args.trail.now
