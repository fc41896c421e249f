use Rattle.refine_flow.proofs.Gathers.{nothing_known, nothing_gathered}
use Rattle.refine_flow.proofs.facts.Facts.gather.Goals as goal

pub returns-clause-facts : goal.returns-clause-facts
returns-clause-facts c = nothing_known c.nothing.result c.args.self.now c.nothing.ensures.made

pub returns-clause-gathered : goal.returns-clause-gathered
returns-clause-gathered c = nothing_gathered c.nothing.result c.args.self.now c.nothing.ensures.leaves c.nothing.ensures.settled
