use Rattle.std.proofs.Common.{None, Some}
use Rattle.fact_ways.proofs.Marks.{leads_through}
use Rattle.fact_ways.proofs.fork.meet_same.Goals as goal

pub returns-clause-leads : goal.returns-clause-leads
returns-clause-leads c = leads_through None (Some c.in_ok-fork.fork) None c.args.facts.now c.stand.new.facts c.meet.new.facts c.in_ok-fork.ensures.leads c.in_ok-meet.ensures.leads
