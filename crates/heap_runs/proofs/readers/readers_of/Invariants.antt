use Rattle.heap_runs.specs.Fresh.{AreFresh}
use Rattle.heap_runs.proofs.readers.readers_of.Given as goal

abbrev pub invariant-loop-i : goal.invariant-loop-i
invariant-loop-i l = AreFresh l.heap l.lanes
