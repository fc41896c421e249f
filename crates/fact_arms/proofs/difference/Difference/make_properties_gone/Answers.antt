use Rattle.std.proofs.Common.{refl}
use Rattle.fact_trail.specs.Slots.{is_property}
use Rattle.fact_trail.specs.Moments.{map_of}
use Rattle.fact_arms.proofs.Making.{made_gone, made_stays, goes_itself, goes_dropped}
use Rattle.fact_arms.proofs.difference.Difference.make_properties_gone.Goals as goal

pub returns-then-self-clause-made : goal.returns-then-self-clause-made
returns-then-self-clause-made c = made_gone is_property c.args.self.now.gone.properties c.args.self.now.gone.properties c.args.trail.now c.drop_properties.new.self refl c.if-self.true c.drop_properties.ensures

pub returns-then-self-clause-goes : goal.returns-then-self-clause-goes
returns-then-self-clause-goes c = goes_dropped c.args.self.now is_property c.args.trail.now c.drop_properties.new.self c.drop_properties.ensures

pub returns-else-self-clause-made : goal.returns-else-self-clause-made
returns-else-self-clause-made c = made_stays is_property c.args.self.now.gone.properties c.args.self.now.gone.properties (map_of c.args.trail.now) refl c.if-self.false

pub returns-else-self-clause-goes : goal.returns-else-self-clause-goes
returns-else-self-clause-goes c = goes_itself c.args.self.now c.args.trail.now
