use Rattle.number_draws.proofs.Moves.{puts}
use Rattle.number_draws.proofs.deque.put.Goals as goal

pub push_as-requires-clause-pushes : goal.push_as-requires-clause-pushes
push_as-requires-clause-pushes c = puts _ _ _ c.requires
