use Rattle.std.proofs.Common.{refl, ◌∙◌}
use Rattle.flow_facts.specs.Known.{joined}
use Rattle.fact_ways.proofs.Marks.{lengthens, way_inside, arm_inside}
use Rattle.fact_ways.proofs.nested.meet_way.Goals as goal

pub returns-clause-leads : goal.returns-clause-leads
returns-clause-leads c =
    lengthens c.args.left (record { mark = c.args.left.mark; arm = c.in_ok-arm.arm }) c.args.last c.args.facts.now c.lengthen.new.self c.join_arm.new.self refl c.requires.left c.in_ok-arm.ensures.marks c.join_arm.ensures.marks c.in_ok-arm.ensures.arm.0

pub returns-clause-facts : goal.returns-clause-facts
returns-clause-facts c =
    c.in_ok-join_arm.ensures.facts ∙ (λ i. joined (way_inside c.args.left c.args.last c.args.facts.now c.lengthen.new.self c.requires.left c.in_ok-arm.ensures.marks i) (c.in_ok-arm.ensures.facts i))

pub returns-clause-arm : goal.returns-clause-arm
returns-clause-arm c =
    arm_inside c.args.left c.args.last c.in_ok-arm.arm c.args.facts.now c.lengthen.new.self c.join_arm.new.self c.requires.left c.in_ok-arm.ensures.marks c.in_ok-arm.ensures.arm.0 c.join_arm.ensures.marks ∙ c.in_ok-arm.ensures.arm.1
