use Rattle.entity_heap.proofs.Promises.{is_apart}
use Rattle.entity_heap.proofs.laws.filled_is_apart.Goals as goal

pub returns : goal.returns
returns g c = λ s r. is_apart g.P.Program.fits s r
