use Rattle.std.proofs.Common.{◌≡◌, ◌++◌, take}
use Rattle.signature_table.specs.Telling.{rows_of}
use Rattle.signature_table.proofs.table.add_rows.Given as goal

abbrev pub invariant-loop-i : goal.invariant-loop-i
invariant-loop-i l = l.out ≡ l.fn.out ++ rows_of l.home (take l.i l.aliases)
