use Rattle.std.proofs.Common.{take}
use Rattle.code_changes.specs.Walks.{AreTaken}
use Rattle.code_changes.proofs.walk.take_names.Given as goal

abbrev pub invariant-loop-i : goal.invariant-loop-i
invariant-loop-i l = AreTaken (take l.i l.names) l.fn.own l.own
