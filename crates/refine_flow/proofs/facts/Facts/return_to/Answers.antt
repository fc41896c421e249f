use Rattle.std.proofs.Common.{refl}
use Rattle.refine_flow.proofs.Turning.{kept_up_to, tidy_back, turned_known}
use Rattle.refine_flow.proofs.facts.Facts.return_to.Goals as goal

pub invariant_of-self : goal.invariant_of-self
invariant_of-self c = record { tidy = tidy_back c.args.self.now.names c.args.self.now.trail c.go_back.new.trail c.go_back.ensures.goes c.args.self.now.tidy }

pub invariant_of-self-2 : goal.invariant_of-self-2
invariant_of-self-2 c = record { tidy = tidy_back c.args.self.now.names c.args.self.now.trail c.go_back.new.trail c.go_back.ensures.goes c.args.self.now.tidy }

pub returns-clause-facts : goal.returns-clause-facts
returns-clause-facts c = turned_known c.args.self.now c.args.mark.now c.go_back.new.trail c.in_ok-go_back.ensures.back

pub returns-clause-marks : goal.returns-clause-marks
returns-clause-marks c = kept_up_to c.args.self.now _ c.args.mark.now refl refl c.go_back.ensures.within c.go_back.ensures.goes

pub returns-in_err-go_back-clause-marks : goal.returns-in_err-go_back-clause-marks
returns-in_err-go_back-clause-marks c = kept_up_to c.args.self.now _ c.args.mark.now refl refl c.go_back.ensures.within c.go_back.ensures.goes
