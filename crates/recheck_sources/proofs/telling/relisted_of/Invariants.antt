use Rattle.recheck_sources.proofs.Loops.{AreEach, Tells}
use Rattle.recheck_sources.proofs.telling.relisted_of.Given as goal

abbrev pub invariant-loop-i : goal.invariant-loop-i
invariant-loop-i l = AreEach (Tells l.was l.from l.lists) l.i l.flags.items
