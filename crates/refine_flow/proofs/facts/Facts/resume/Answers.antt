use Rattle.std.proofs.Common.{refl}
use Rattle.refine_flow.proofs.Turning.{tidy_on, went_on, resumed_known}
use Rattle.refine_flow.proofs.facts.Facts.resume.Goals as goal

pub invariant_of-self : goal.invariant_of-self
invariant_of-self c = record { tidy = tidy_on c.args.self.now.names c.args.arm.now.difference c.args.self.now.trail c.make.new.trail c.make.ensures.goes c.requires.arm c.args.self.now.tidy }

pub invariant_of-self-2 : goal.invariant_of-self-2
invariant_of-self-2 c = record { tidy = tidy_on c.args.self.now.names c.args.arm.now.difference c.args.self.now.trail c.make.new.trail c.make.ensures.goes c.requires.arm c.args.self.now.tidy }

pub returns-clause-facts : goal.returns-clause-facts
returns-clause-facts c = resumed_known c.args.mark.now c.args.arm.now c.args.self.now c.make.new.trail c.requires.mark.1 c.in_ok-make.ensures.made

pub returns-clause-marks : goal.returns-clause-marks
returns-clause-marks c = went_on c.args.arm.now.difference c.args.self.now _ refl refl c.in_ok-make.ensures.goes

pub returns-in_err-make-clause-marks : goal.returns-in_err-make-clause-marks
returns-in_err-make-clause-marks c = went_on c.args.arm.now.difference c.args.self.now _ refl refl c.in_err-make.ensures.goes
