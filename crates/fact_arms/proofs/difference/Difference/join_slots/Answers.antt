use Rattle.std.proofs.Common.{arith}
use Rattle.fact_trail.specs.Moments.{map_of}
use Rattle.fact_arms.proofs.Making.{none_listed}
use Rattle.fact_arms.proofs.Settling.{joins_none, joins_more, joins_all}
use Rattle.fact_arms.proofs.difference.Difference.join_slots.Goals as goal

pub loop-slot-init : goal.loop-slot-init
loop-slot-init c = joins_none c.args.arm.now c.args.self.now (map_of c.args.trail.now) c.args.slots.items

pub loop-slot-preserved : goal.loop-slot-preserved
loop-slot-preserved c =
    let one = c.in_ok-join_slot.ensures in
    joins_more c.args.arm.now c.args.self.now (map_of c.args.trail.now) c.args.slots.items c.loop-slot.slots.items c.pop.new.self.items c.in-Some.slot c.loop-slot.self c.join_slot.new.self c.loop-slot.invariant c.in-Some.ensures.items one.here one.settles
    one.others one.gone

pub returns : goal.returns
returns c =
    joins_all c.args.arm.now c.args.self.now (map_of c.args.trail.now) c.args.slots.items c.loop-slot.slots.items c.loop-slot.self c.loop-slot.invariant (none_listed c.loop-slot.slots.items (omega (arith, c.in_default.ensures.cases.0, c.loop-slot.slots.ok.0)))
