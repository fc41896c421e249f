use Rattle.entity_heap.proofs.Promises.{are_served}
use Rattle.entity_heap.proofs.laws.readers_are_served.Goals as goal

pub returns : goal.returns
returns g c = λ s r. are_served g.P.Program.fits s r
