use Rattle.recheck_sources.specs.Keeping.{signatures_of}
use Rattle.recheck_sources.proofs.Loops.{AreEach, Tells}
use Rattle.recheck_sources.proofs.telling.resigned_of.Given as goal

abbrev pub invariant-loop-i : goal.invariant-loop-i
invariant-loop-i l = AreEach (Tells (signatures_of l.was) l.from (signatures_of l.parses)) l.i l.flags.items
