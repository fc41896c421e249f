use Rattle.fact_trail.specs.Moments.{map_of}
use Rattle.fact_arms.proofs.Making.{put_own, given_fresh, removed_own}
use Rattle.fact_arms.proofs.trails.give_own.Goals as goal

pub returns-in-Some-clause-made : goal.returns-in-Some-clause-made
returns-in-Some-clause-made c = put_own c.put.result c.args.slot c.args.fact c.in-Some.fact (map_of c.args.trail.now) (map_of c.put.new.self) c.in-Some.is c.put.ensures.facts

pub returns-in-Some-clause-fresh : goal.returns-in-Some-clause-fresh
returns-in-Some-clause-fresh c = λ s none was. given_fresh c.args.slot s c.args.fact c.in-Some.fact c.args.trail.now c.put.new.self c.in-Some.is c.put.ensures.adds none was

pub returns-in-None-clause-made : goal.returns-in-None-clause-made
returns-in-None-clause-made c = removed_own c.args.slot c.args.fact c.args.trail.now c.remove.new.self c.in-None.is c.remove.ensures.drops

pub returns-in-None-clause-fresh : goal.returns-in-None-clause-fresh
returns-in-None-clause-fresh c = λ s none was. c.remove.ensures.drops.fresh s was
