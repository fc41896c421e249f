use Rattle.std.proofs.Common.{arith}
use Rattle.number_draws.proofs.Moves.{takes}
use Rattle.number_draws.proofs.deque.pop.Goals as goal

pub pop_as-requires-clause-fifo : goal.pop_as-requires-clause-fifo
pop_as-requires-clause-fifo c = λ _. takes _ _ c.requires.1

pub pop_as-requires-clause-lifo : goal.pop_as-requires-clause-lifo
pop_as-requires-clause-lifo c = λ z. let f = c.requires.0 in absurd (omega arith)
