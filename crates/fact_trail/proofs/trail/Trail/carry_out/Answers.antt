use Rattle.std.proofs.Common.{arith}
use Rattle.fact_trail.proofs.Planning.{carries_itself, carries_more, last_fits, last_room, carried_all}
use Rattle.fact_trail.proofs.trail.Trail.carry_out.Goals as goal

pub loop-planned-init : goal.loop-planned-init
loop-planned-init c = carries_itself c.args.plan.items c.args.self.now c.requires.fits c.requires.room

pub carry_out_one-requires-clause-room : goal.carry_out_one-requires-clause-room
carry_out_one-requires-clause-room c = last_room c.loop-planned.plan.items c.pop.new.self.items c.args.plan.items c.in-Some.planned c.args.self.now c.loop-planned.self c.in-Some.ensures.items c.loop-planned.invariant

pub carry_out_one-requires-clause-fits : goal.carry_out_one-requires-clause-fits
carry_out_one-requires-clause-fits c = last_fits c.loop-planned.plan.items c.pop.new.self.items c.args.plan.items c.in-Some.planned c.args.self.now c.loop-planned.self c.in-Some.ensures.items c.loop-planned.invariant

pub loop-planned-preserved : goal.loop-planned-preserved
loop-planned-preserved c =
    let one = c.carry_out_one.ensures in
    carries_more c.loop-planned.plan.items c.pop.new.self.items c.args.plan.items c.in-Some.planned c.args.self.now c.loop-planned.self c.carry_out_one.new.self c.in-Some.ensures.items one.facts one.extends one.room c.loop-planned.invariant

pub returns-clause-facts : goal.returns-clause-facts
returns-clause-facts c = carried_all c.loop-planned.plan.items c.args.plan.items c.args.self.now c.loop-planned.self (omega (arith, c.in_default.ensures.cases.0, c.loop-planned.plan.ok.0)) c.loop-planned.invariant
