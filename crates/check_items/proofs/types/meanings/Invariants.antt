use Rattle.std.proofs.Common.{take}
use Rattle.named_rows.specs.Seen.{seen}
use Rattle.check_items.specs.Meant.{meant_view, AreNamed}
use Rattle.check_items.proofs.types.meanings.Given as goal

abbrev pub invariant-loop-i : goal.invariant-loop-i
invariant-loop-i l = AreNamed l.imports l.home (seen meant_view (take l.i l.rows)) l.names
