use Rattle.entity_heap.proofs.Promises.{is_awaited}
use Rattle.entity_heap.proofs.laws.refused_is_pinned.Goals as goal

pub returns : goal.returns
returns g c = λ s r. is_awaited g.P.Program.fits s r
