use Rattle.std.proofs.Common.{refl, ap}
use Rattle.fact_arms.specs.Differences.{type_of}
use Rattle.refine_flow.proofs.Turning.{tidy_on, went_on, joined_leaves, joined_known}
use Rattle.refine_flow.proofs.facts.Facts.join_arms.Goals as goal

pub invariant_of-self : goal.invariant_of-self
invariant_of-self c =
    let facts = c.args.self.now in
    record {
      tidy = tidy_on facts.names c.in_ok-both.both facts.trail c.move_to.new.trail c.move_to.ensures.goes (joined_leaves facts.names facts.trail c.args.arm.now.difference c.args.ours.difference c.in_ok-both.both c.in_ok-both.ensures c.requires.arm facts.tidy)
          facts.tidy;
    }

pub invariant_of-self-2 : goal.invariant_of-self-2
invariant_of-self-2 c =
    let facts = c.args.self.now in
    record {
      tidy = tidy_on facts.names c.in_ok-both.both facts.trail c.move_to.new.trail c.move_to.ensures.goes (joined_leaves facts.names facts.trail c.args.arm.now.difference c.args.ours.difference c.in_ok-both.both c.in_ok-both.ensures c.requires.arm facts.tidy)
          facts.tidy;
    }

pub returns-clause-facts : goal.returns-clause-facts
returns-clause-facts c = joined_known c.args.mark.now c.args.arm.now c.args.ours c.args.self.now c.move_to.new.trail c.in_ok-both.both c.requires.at c.in_ok-both.ensures (λ s. ap type_of (c.in_ok-move_to.ensures.made s))

pub returns-clause-marks : goal.returns-clause-marks
returns-clause-marks c = went_on c.in_ok-both.both c.args.self.now _ refl refl c.in_ok-move_to.ensures.goes

pub returns-in_err-move_to-clause-marks : goal.returns-in_err-move_to-clause-marks
returns-in_err-move_to-clause-marks c = went_on c.in_ok-both.both c.args.self.now _ refl refl c.in_err-move_to.ensures.goes
