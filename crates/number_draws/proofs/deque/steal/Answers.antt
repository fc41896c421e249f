use Rattle.number_draws.proofs.Moves.{takes}
use Rattle.number_draws.proofs.deque.steal.Goals as goal

pub steal_as-requires-clause-takes : goal.steal_as-requires-clause-takes
steal_as-requires-clause-takes c = takes _ _ c.requires.part
