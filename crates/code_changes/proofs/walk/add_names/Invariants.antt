use Rattle.std.proofs.Common.{take}
use Rattle.code_changes.specs.Walks.{AreAdded}
use Rattle.code_changes.proofs.walk.add_names.Given as goal

abbrev pub invariant-loop-i : goal.invariant-loop-i
invariant-loop-i l = AreAdded (take l.i l.names) l.fn.own l.own l.added
