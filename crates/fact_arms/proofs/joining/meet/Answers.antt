use Rattle.std.proofs.Common.{not, ◌&&◌, ap, arith}
use Rattle.fact_trail.specs.Moments.{map_of}
use Rattle.fact_arms.specs.Differences.{is_said}
use Rattle.fact_arms.proofs.Making.{none_listed}
use Rattle.fact_arms.proofs.Meeting.{meets_first, meets_past, meets_more}
use Rattle.fact_arms.proofs.joining.meet.Goals as goal

pub loop-slot-init : goal.loop-slot-init
loop-slot-init c =
    meets_first c.args.first.now c.args.second c.new-difference.result c.in_ok-slots.slots.items (map_of c.args.trail.now) c.or-gone.result c.new-difference.ensures.gone c.or-gone.ensures
    c.new-difference.ensures.said c.in_ok-slots.ensures.first c.in_ok-slots.ensures.second c.in_ok-slots.ensures.rough

pub loop-slot-preserved-then-says : goal.loop-slot-preserved-then-says
loop-slot-preserved-then-says c =
    meets_past c.args.first.now c.args.second (map_of c.args.trail.now) c.loop-slot.slots.items c.pop.new.self.items c.in-Some.slot c.loop-slot.rest c.loop-slot.difference c.says.result c.loop-slot.invariant c.in-Some.ensures.items c.says.ensures c.if-says.true

pub loop-slot-preserved : goal.loop-slot-preserved
loop-slot-preserved c =
    meets_more c.args.first.now c.args.second (map_of c.args.trail.now) c.loop-slot.slots.items c.pop.new.self.items c.in-Some.slot c.loop-slot.rest c.join_at.new.second c.loop-slot.difference c.say.new.self c.in_ok-fact.fact c.says.result
    c.loop-slot.invariant c.in-Some.ensures.items c.says.ensures c.if-says.false c.in_ok-fact.ensures.fact c.in_ok-fact.ensures.said c.in_ok-fact.ensures.gone c.in_ok-say.ensures.said c.in_ok-say.ensures.gone

pub returns : goal.returns
returns c = λ s.
    c.loop-slot.invariant.joins s (ap (λ b. b && not (is_said c.loop-slot.difference s)) (none_listed c.loop-slot.slots.items (omega (arith, c.in_default.ensures.cases.0, c.loop-slot.slots.ok.0)) s))
