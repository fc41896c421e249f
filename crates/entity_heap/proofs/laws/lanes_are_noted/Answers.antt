use Rattle.entity_heap.proofs.Promises.{are_noted}
use Rattle.entity_heap.proofs.laws.lanes_are_noted.Goals as goal

pub returns : goal.returns
returns g c = λ s r. are_noted g.P.Program.fits s r
