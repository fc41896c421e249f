use Rattle.std.proofs.Common.{take}
use Rattle.alias_table.specs.Splitting.{Splits}
use Rattle.alias_table.proofs.table.rows_apart.Given as goal

abbrev pub invariant-loop-i : goal.invariant-loop-i
invariant-loop-i l = Splits l.others.rows (take l.i l.own) l.apart
