use Rattle.std.proofs.Common.{◌∙◌}
use Rattle.refine_flow.proofs.Copying.{last_stays, spent_then}
use Rattle.refine_flow.proofs.facts.Facts.end_function.Goals as goal

pub spend-requires : goal.spend-requires
spend-requires c = last_stays c.args.mark c.args.self.now c.return_to.new.self c.requires c.return_to.ensures.marks

pub returns-clause-facts : goal.returns-clause-facts
returns-clause-facts c = c.spend.ensures.facts ∙ c.in_ok-return_to.ensures.facts

pub returns-clause-marks : goal.returns-clause-marks
returns-clause-marks c = spent_then c.args.mark c.args.self.now c.return_to.new.self c.spend.new.self c.return_to.ensures.marks c.spend.ensures.marks
