use Rattle.std.proofs.Common.{refl, ◌∙◌}
use Rattle.refine_flow.proofs.Turning.{tidy_on, went_on}
use Rattle.refine_flow.proofs.MarkLemmas.{keeps_twice}
use Rattle.refine_flow.proofs.Gathers.{made_with}
use Rattle.refine_flow.proofs.facts.Facts.make_gathered.Goals as goal

pub invariant_of-self : goal.invariant_of-self
invariant_of-self c = record { tidy = tidy_on c.args.self.now.names c.args.gathered.difference c.args.self.now.trail c.make.new.trail c.make.ensures.goes c.requires.leaves c.args.self.now.tidy }

pub returns-clause-facts : goal.returns-clause-facts
returns-clause-facts c = c.settle.ensures.facts ∙ made_with c.args.gathered c.args.self.now c.make.new.trail c.in_ok-make.ensures.made

pub returns-clause-marks : goal.returns-clause-marks
returns-clause-marks c = keeps_twice c.args.self.now _ c.settle.new.self (went_on c.args.gathered.difference c.args.self.now _ refl refl c.in_ok-make.ensures.goes) c.settle.ensures.marks

pub returns-in_err-make-clause-marks : goal.returns-in_err-make-clause-marks
returns-in_err-make-clause-marks c = went_on c.args.gathered.difference c.args.self.now _ refl refl c.in_err-make.ensures.goes
