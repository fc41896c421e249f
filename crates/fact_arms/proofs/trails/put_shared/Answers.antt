use Rattle.fact_trail.specs.Moments.{map_of}
use Rattle.fact_arms.proofs.Making.{given_at}
use Rattle.fact_arms.proofs.trails.put_shared.Goals as goal

pub returns-clause-made : goal.returns-clause-made
returns-clause-made c = given_at c.put.result c.args.slot c.args.fact.now c.in_ok-own.own (map_of c.args.trail.now) (map_of c.put.new.self) c.in_ok-own.ensures.ty c.put.ensures.facts
