use Rattle.number_draws.proofs.Moves.{merges}
use Rattle.number_draws.proofs.deque.gather.Goals as goal

pub absorb-requires-clause-rule : goal.absorb-requires-clause-rule
absorb-requires-clause-rule c = merges _ _ _ _ c.requires.part
