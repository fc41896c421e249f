use Rattle.fact_ways.proofs.Marks.{spends}
use Rattle.fact_ways.proofs.fork.meet.Goals as goal

pub returns-clause-leads : goal.returns-clause-leads
returns-clause-leads c = spends c.args.fork c.args.facts.now c.join_arm.new.self c.spend.new.self c.requires c.join_arm.ensures.marks c.spend.ensures.marks
