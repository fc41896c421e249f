use Rattle.std.proofs.Common.{refl, ◌∙◌}
use Rattle.fact_ways.proofs.Marks.{arm_still, arm_made, arm_kept, swaps}
use Rattle.fact_ways.proofs.fork.swap.Goals as goal

pub resume-requires-clause-arm : goal.resume-requires-clause-arm
resume-requires-clause-arm c = arm_still c.args.fork c.args.facts.now c.turn.new.self c.requires c.turn.ensures.marks

pub returns-clause-leads : goal.returns-clause-leads
returns-clause-leads c =
    swaps c.args.fork (record { mark = c.args.fork.mark; arm = c.in_ok-other.other }) c.args.facts.now c.turn.new.self c.resume.new.self refl c.requires c.turn.ensures.marks c.resume.ensures.marks c.in_ok-other.ensures.arm.0

pub returns-clause-facts : goal.returns-clause-facts
returns-clause-facts c = c.in_ok-resume.ensures.facts ∙ arm_made c.args.fork c.args.facts.now c.turn.new.self c.requires c.turn.ensures.marks

pub returns-clause-arm : goal.returns-clause-arm
returns-clause-arm c =
    arm_kept c.args.fork c.in_ok-other.other c.args.facts.now c.turn.new.self c.resume.new.self c.requires c.turn.ensures.marks c.in_ok-other.ensures.arm.0 c.in_ok-resume.ensures.marks ∙ c.in_ok-other.ensures.arm.1
