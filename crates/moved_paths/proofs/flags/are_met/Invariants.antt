use Rattle.moved_paths.specs.Flags.{AreMet}
use Rattle.moved_paths.proofs.flags.are_met.Given as goal

abbrev pub invariant-loop-i : goal.invariant-loop-i
invariant-loop-i l = AreMet l.from l.many l.i l.flags.items
