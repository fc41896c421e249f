use Rattle.std.proofs.Common.{◌+◌, ◌≤◌, take}
use Rattle.edited_root.specs.Numbering.{somes, AreMarks, ons, news}
use Rattle.edited_root.proofs.numbering.marks_of.Given as goal

abbrev pub invariant-loop-i : goal.invariant-loop-i
invariant-loop-i l = record { marked : AreMarks (somes (take l.i l.kept)) l.capacity l.marks.items; few : ons l.marks.items + news (take l.i l.kept) ≤ l.i }
