use Rattle.entity_heap.proofs.Promises.{have_left}
use Rattle.entity_heap.proofs.laws.drained_is_left.Goals as goal

pub returns : goal.returns
returns g c = λ s r. have_left g.P.Program.fits s r
