use Rattle.std.proofs.Common.{◌≡◌, ◌++◌, take}
use Rattle.alias_table.proofs.table.add_rows.Given as goal

abbrev pub invariant-loop-i : goal.invariant-loop-i
invariant-loop-i l = l.out ≡ l.fn.out ++ take l.i l.rows
