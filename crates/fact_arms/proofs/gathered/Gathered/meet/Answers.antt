use Rattle.std.proofs.Common.{refl}
use Rattle.fact_trail.specs.Moments.{map_of}
use Rattle.fact_arms.proofs.Settling.{met_joined, met_settled}
use Rattle.fact_arms.proofs.gathered.Gathered.meet.Goals as goal

pub returns-clause-joined : goal.returns-clause-joined
returns-clause-joined c =
    met_joined c.args.self.now c.args.arm.now c.join_slots.new.self c.drop_with.new.self (map_of c.args.trail.now) c.in_ok-slots.slots.items c.requires c.in_ok-slots.ensures.said c.in_ok-slots.ensures.fresh c.in_ok-join_slots.ensures c.in_ok-drop_with.ensures.said c.in_ok-drop_with.ensures.gone

pub returns-clause-settled : goal.returns-clause-settled
returns-clause-settled c =
    met_settled (record { difference = c.drop_with.new.self; fresh = c.in_ok-self.field-0 }) c.in_ok-self.field-0 c.args.arm.now c.args.self.now.difference (map_of c.args.trail.now) c.add_said.new.slots.items refl c.in_ok-add_said.ensures.adds c.in_ok-self.ensures
    (met_joined c.args.self.now c.args.arm.now c.join_slots.new.self c.drop_with.new.self (map_of c.args.trail.now) c.in_ok-slots.slots.items c.requires c.in_ok-slots.ensures.said c.in_ok-slots.ensures.fresh c.in_ok-join_slots.ensures c.in_ok-drop_with.ensures.said c.in_ok-drop_with.ensures.gone)
