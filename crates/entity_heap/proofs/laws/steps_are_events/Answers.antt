use Rattle.entity_heap.proofs.Events.{are_events}
use Rattle.entity_heap.proofs.laws.steps_are_events.Goals as goal

pub returns : goal.returns
returns g c = λ s r own w i. are_events g.P.Program.fits s r own w i
