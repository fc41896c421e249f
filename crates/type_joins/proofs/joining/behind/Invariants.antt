use Rattle.std.proofs.Common.{◌≡◌, take}
use Rattle.type_joins.proofs.joining.behind.Given as goal

abbrev pub invariant-loop-i : goal.invariant-loop-i
invariant-loop-i l = l.kept ≡ take l.i l.all
