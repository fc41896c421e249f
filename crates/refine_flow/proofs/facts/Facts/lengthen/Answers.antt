use Rattle.std.proofs.Common.{refl}
use Rattle.refine_flow.proofs.Lengthening.{known_again, long_arm, long_known, spends_inner}
use Rattle.refine_flow.proofs.facts.Facts.lengthen.Goals as goal

pub invariant_of-self : goal.invariant_of-self
invariant_of-self c = record { tidy = λ s beyond. c.between.ensures.fresh s (c.args.self.now.tidy s beyond) }

pub invariant_of-self-2 : goal.invariant_of-self-2
invariant_of-self-2 c = record { tidy = λ s beyond. c.between.ensures.fresh s (c.args.self.now.tidy s beyond) }

pub returns-clause-facts : goal.returns-clause-facts
returns-clause-facts c = known_again c.args.self.now c.between.new.trail c.in_ok-between.ensures.types

pub returns-clause-arm : goal.returns-clause-arm
returns-clause-arm c =
    let between = c.in_ok-between in
    let long = c.in_ok-difference in (
      long_arm c.args.arm long.difference between.between c.args.self.now long.ensures c.requires.arm between.ensures.leaves,
      long_known c.args.last c.args.before.now c.args.arm long.difference between.between c.args.self.now c.between.new.trail long.ensures between.ensures.moments between.ensures.between,
    )

pub returns-clause-marks : goal.returns-clause-marks
returns-clause-marks c = spends_inner c.args.before.now c.args.last c.args.self.now _ refl refl c.requires.before.2 c.in_ok-between.ensures.within c.in_ok-between.ensures.moments
