use Rattle.std.proofs.Common.{refl, sym}
use Rattle.refine_flow.proofs.Turning.{kept_up_to, tidy_back, turned_known, turned_arm}
use Rattle.refine_flow.proofs.facts.Facts.turn.Goals as goal

pub invariant_of-self : goal.invariant_of-self
invariant_of-self c = record { tidy = tidy_back c.args.self.now.names c.args.self.now.trail c.take.new.trail c.take.ensures.goes c.args.self.now.tidy }

pub invariant_of-self-2 : goal.invariant_of-self-2
invariant_of-self-2 c = record { tidy = tidy_back c.args.self.now.names c.args.self.now.trail c.take.new.trail c.take.ensures.goes c.args.self.now.tidy }

pub returns-clause-back : goal.returns-clause-back
returns-clause-back c = turned_known c.args.self.now c.args.mark.now c.take.new.trail c.in_ok-difference.ensures.back

pub returns-clause-at : goal.returns-clause-at
returns-clause-at c = sym c.in_ok-difference.ensures.count

pub returns-clause-arm : goal.returns-clause-arm
returns-clause-arm c = turned_arm c.args.self.now c.args.mark.now c.in_ok-difference.difference c.take.new.trail c.in_ok-difference.ensures.count c.in_ok-difference.ensures.made c.in_ok-difference.ensures.leaves

pub returns-clause-marks : goal.returns-clause-marks
returns-clause-marks c = kept_up_to c.args.self.now _ c.args.mark.now refl refl c.in_ok-difference.ensures.within c.in_ok-difference.ensures.goes

pub returns-in_err-difference-clause-marks : goal.returns-in_err-difference-clause-marks
returns-in_err-difference-clause-marks c = kept_up_to c.args.self.now _ c.args.mark.now refl refl c.in_err-difference.ensures.within c.in_err-difference.ensures.goes
