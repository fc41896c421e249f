use Rattle.std.proofs.Common.{take}
use Rattle.committed_results.specs.Held.{AreHeld}
use Rattle.committed_results.proofs.reading.parts_of.Given as goal

-- the results of the modules so far
abbrev pub invariant-loop-i : goal.invariant-loop-i
invariant-loop-i g l = AreHeld (g.W.HeapWriter.meaning l.writer).committed g.P.Part.place g.P.Part.put (take l.i l.modules) l.parts.items
