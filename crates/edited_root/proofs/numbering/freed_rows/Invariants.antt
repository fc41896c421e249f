use Rattle.std.proofs.Common.{◌≡◌, take}
use Rattle.edited_root.proofs.Marks.{freed_in}
use Rattle.edited_root.proofs.numbering.freed_rows.Given as goal

abbrev pub invariant-loop-i : goal.invariant-loop-i
invariant-loop-i l = l.freed.items ≡ freed_in l.new (take l.i l.modules)
