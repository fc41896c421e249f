use Rattle.std.proofs.Common.{take}
use Rattle.signature_table.specs.Telling.{AreAliases}
use Rattle.signature_table.proofs.table.aliases_of.Given as goal

abbrev pub invariant-loop-i : goal.invariant-loop-i
invariant-loop-i l = AreAliases (take l.i l.rows) l.aliases
