use Rattle.number_draws.proofs.Moves.{begins}
use Rattle.number_draws.proofs.deque.new_deque.Goals as goal

pub fifo_as-requires : goal.fifo_as-requires
fifo_as-requires c = begins
