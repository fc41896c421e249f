use Rattle.std.proofs.Common.{take}
use Rattle.edited_root.specs.Numbering.{AreMarks}
use Rattle.edited_root.proofs.Marks.{rows_of}
use Rattle.edited_root.proofs.numbering.marks_of_rows.Given as goal

abbrev pub invariant-loop-i : goal.invariant-loop-i
invariant-loop-i l = AreMarks (rows_of (take l.i l.modules)) l.capacity l.marks.items
