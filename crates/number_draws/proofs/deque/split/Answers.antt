use Rattle.number_draws.proofs.Moves.{forks}
use Rattle.number_draws.proofs.deque.split.Goals as goal

pub another-requires : goal.another-requires
another-requires c = forks _ _ c.requires
