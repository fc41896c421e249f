use Rattle.std.proofs.Common.{◌∙◌}
use Rattle.fact_arms.proofs.Settling.{again_past, again_more, again_all}
use Rattle.fact_arms.proofs.difference.Difference.say_again.Goals as goal

pub loop-slot-preserved-then-not-lets_stay : goal.loop-slot-preserved-then-not-lets_stay
loop-slot-preserved-then-not-lets_stay c = record {
  said = λ s. again_past c.args.arm.now c.loop-slot.rest c.pop.new.self c.loop-slot.self c.in-Some.slot c.lets_stay.result c.lets_stay.ensures c.if-not-lets_stay.true c.in-Some.ensures.said s ∙ c.loop-slot.invariant.said s;
  gone = c.loop-slot.invariant.gone;
}

pub loop-slot-preserved : goal.loop-slot-preserved
loop-slot-preserved c = record {
  said = λ s. again_more c.args.arm.now c.loop-slot.rest c.pop.new.self c.loop-slot.self c.say.new.self c.in-Some.slot c.in-Some.fact c.lets_stay.result c.lets_stay.ensures c.if-not-lets_stay.false c.in-Some.ensures.was c.in-Some.ensures.said c.in_ok-say.ensures.said s ∙ c.loop-slot.invariant.said s;
  gone = c.in_ok-say.ensures.gone ∙ c.loop-slot.invariant.gone;
}

pub returns-clause-said : goal.returns-clause-said
returns-clause-said c = λ s. again_all c.args.arm.now c.loop-slot.rest c.loop-slot.self c.in_default.ensures.none s ∙ c.loop-slot.invariant.said s
