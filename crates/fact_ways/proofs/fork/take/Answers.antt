use Rattle.std.proofs.Common.{Some, None}
use Rattle.fact_ways.proofs.Marks.{spent_leads, leads_through}
use Rattle.fact_ways.proofs.fork.take.Goals as goal

pub returns-clause-leads : goal.returns-clause-leads
returns-clause-leads c =
    leads_through (Some c.args.fork) (Some c.in_ok-mark.field-0) None c.args.facts.now c.swap.new.facts c.spend.new.self c.in_ok-mark.ensures.leads (spent_leads c.in_ok-mark.field-0 c.swap.new.facts c.spend.new.self c.spend.ensures.marks)
