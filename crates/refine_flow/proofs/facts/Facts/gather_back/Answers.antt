use Rattle.std.proofs.Common.{refl, sym}
use Rattle.refine_flow.proofs.Turning.{kept_up_to, tidy_back}
use Rattle.refine_flow.proofs.Gathers.{with_before, gathered_before}
use Rattle.refine_flow.proofs.facts.Facts.gather_back.Goals as goal

pub invariant_of-self : goal.invariant_of-self
invariant_of-self c = record { tidy = tidy_back c.args.self.now.names c.args.self.now.trail c.take.new.trail c.take.ensures.goes c.args.self.now.tidy }

pub take-requires : goal.take-requires
take-requires c = record { within = c.requires.mark.1; settled = c.requires.gathered.settled }

pub returns-clause-facts : goal.returns-clause-facts
returns-clause-facts c = with_before c.args.gathered c.take.new.self c.args.self.now c.take.new.trail c.in_ok-take.ensures.made

pub returns-clause-gathered : goal.returns-clause-gathered
returns-clause-gathered c = gathered_before c.args.gathered c.take.new.self c.args.self.now _ refl c.requires.gathered c.in_ok-take.ensures.settled c.in_ok-take.ensures.leaves

pub returns-clause-at : goal.returns-clause-at
returns-clause-at c = sym c.in_ok-take.ensures.count

pub returns-clause-marks : goal.returns-clause-marks
returns-clause-marks c = kept_up_to c.args.self.now _ c.args.mark.now refl refl c.in_ok-take.ensures.within c.in_ok-take.ensures.goes

pub returns-in_err-take-clause-marks : goal.returns-in_err-take-clause-marks
returns-in_err-take-clause-marks c = kept_up_to c.args.self.now _ c.args.mark.now refl refl c.in_err-take.ensures.within c.in_err-take.ensures.goes
