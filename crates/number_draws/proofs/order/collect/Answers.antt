use Rattle.number_draws.proofs.Filling.{one_some, one_none}
use Rattle.number_draws.proofs.order.collect.Goals as goal

pub loop-slot-preserved-in-Continue-1 : goal.loop-slot-preserved-in-Continue-1
loop-slot-preserved-in-Continue-1 g c = one_some c.loop-slot.yielded c.in-Some.slot c.in-Some-slot.answer c.loop-slot.all.items _ c.in-Some-slot.is c.loop-slot.invariant c.in_ok-push-in-Some-slot.ensures.items

pub loop-slot-preserved : goal.loop-slot-preserved
loop-slot-preserved g c = one_none c.loop-slot.yielded c.in-Some.slot c.loop-slot.all.items c.in-None-slot.is c.loop-slot.invariant
