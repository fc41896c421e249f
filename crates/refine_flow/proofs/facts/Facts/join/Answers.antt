use Rattle.std.proofs.Common.{◌∙◌}
use Rattle.refine_flow.proofs.Copying.{joined_dead}
use Rattle.refine_flow.proofs.MarkLemmas.{keeps_itself, keeps_twice}
use Rattle.refine_flow.proofs.facts.Facts.join.Goals as goal

pub returns-then-other-clause-facts : goal.returns-then-other-clause-facts
returns-then-other-clause-facts c = joined_dead c.args.self.now c.args.other.now c.if-other.true

pub returns-then-other-clause-marks : goal.returns-then-other-clause-marks
returns-then-other-clause-marks c = keeps_itself c.args.self.now

pub returns-clause-facts : goal.returns-clause-facts
returns-clause-facts c = c.settle.ensures.facts ∙ c.in_ok-join_live.ensures.facts

pub returns-clause-marks : goal.returns-clause-marks
returns-clause-marks c = keeps_twice c.args.self.now c.join_live.new.self c.settle.new.self c.in_ok-join_live.ensures.marks c.settle.ensures.marks
