use Rattle.fact_trail.specs.Moments.{map_of}
use Rattle.fact_arms.proofs.Making.{put_at, given_fresh, removed_at}
use Rattle.fact_arms.proofs.trails.give.Goals as goal

pub returns-in-Some-clause-made : goal.returns-in-Some-clause-made
returns-in-Some-clause-made c = put_at c.put_shared.result c.args.slot c.args.fact.now c.in-Some.fact (map_of c.args.trail.now) (map_of c.put_shared.new.trail) c.in-Some.is c.put_shared.ensures.made

pub returns-in-Some-clause-fresh : goal.returns-in-Some-clause-fresh
returns-in-Some-clause-fresh c = λ s none was. given_fresh c.args.slot s c.args.fact.now c.in-Some.fact c.args.trail.now c.put_shared.new.trail c.in-Some.is c.put_shared.ensures.adds none was

pub returns-in-None-clause-made : goal.returns-in-None-clause-made
returns-in-None-clause-made c = removed_at c.args.slot c.args.fact.now c.args.trail.now c.remove.new.self c.in-None.is c.remove.ensures.drops

pub returns-in-None-clause-fresh : goal.returns-in-None-clause-fresh
returns-in-None-clause-fresh c = λ s none was. c.remove.ensures.drops.fresh s was
