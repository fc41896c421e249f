use Rattle.std.proofs.Common.{arith}
use Rattle.fact_arms.proofs.Making.{none_listed}
use Rattle.fact_arms.proofs.Freshening.{fresh_first, fresh_more}
use Rattle.fact_arms.proofs.fresh.Fresh.of.Goals as goal

pub loop-slot-init : goal.loop-slot-init
loop-slot-init c = λ s is unlisted. fresh_first c.args.slots.items c.new-fresh.result s is unlisted

pub loop-slot-preserved : goal.loop-slot-preserved
loop-slot-preserved c = fresh_more c.args.slots.items c.loop-slot.slots.items c.pop.new.self.items c.in-Some.slot c.loop-slot.fresh c.add.new.self c.loop-slot.invariant c.in-Some.ensures.items c.in_ok-add.ensures.slots

pub returns : goal.returns
returns c = λ s is. c.loop-slot.invariant s is (none_listed c.loop-slot.slots.items (omega (arith, c.in_default.ensures.cases.0, c.loop-slot.slots.ok.0)) s)
