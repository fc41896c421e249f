use Rattle.fact_ways.proofs.Gathers.{way_leads}
use Rattle.fact_ways.proofs.nested.gather_way.Goals as goal

pub returns-clause-leads : goal.returns-clause-leads
returns-clause-leads c = way_leads c.gather_way.result c.args.way c.args.facts.now c.gather_way.new.self c.gather_way.ensures.marks
