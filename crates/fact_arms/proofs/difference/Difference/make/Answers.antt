use Rattle.std.proofs.Common.{arith}
use Rattle.fact_trail.specs.Moments.{map_of}
use Rattle.fact_arms.proofs.Making.{made_first, made_more, made_all, goes_then}
use Rattle.fact_arms.proofs.difference.Difference.make.Goals as goal

pub loop-slot-init : goal.loop-slot-init
loop-slot-init c = record {
  made = made_first c.args.self.now c.add_said.new.slots.items (map_of c.args.trail.now) (map_of c.make_gone.new.trail) c.in_ok-add_said.ensures.adds c.make_gone.ensures.made;
  goes = c.make_gone.ensures.goes;
}

pub loop-slot-preserved : goal.loop-slot-preserved
loop-slot-preserved c = record {
  made = made_more c.args.self.now c.loop-slot.slots.items c.pop.new.self.items c.in-Some.slot (map_of c.args.trail.now) (map_of c.loop-slot.trail) (map_of c.make_at.new.trail) c.in-Some.ensures.items c.loop-slot.invariant.made c.in_ok-make_at.ensures.made;
  goes = goes_then c.args.self.now c.args.trail.now c.loop-slot.trail c.make_at.new.trail c.loop-slot.invariant.goes c.in_ok-make_at.ensures.goes;
}

pub returns-clause-made : goal.returns-clause-made
returns-clause-made c = made_all c.args.self.now c.loop-slot.slots.items (map_of c.args.trail.now) (map_of c.loop-slot.trail) (omega (arith, c.in_default.ensures.cases.0, c.loop-slot.slots.ok.0)) c.loop-slot.invariant.made

pub returns-in_err-make_at-clause-goes : goal.returns-in_err-make_at-clause-goes
returns-in_err-make_at-clause-goes c = goes_then c.args.self.now c.args.trail.now c.loop-slot.trail c.make_at.new.trail c.loop-slot.invariant.goes c.in_err-make_at.ensures.goes
