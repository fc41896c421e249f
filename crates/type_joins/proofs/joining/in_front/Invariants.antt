use Rattle.std.proofs.Common.{◌≡◌, ◌∷◌, take}
use Rattle.type_joins.specs.Plain.{others}
use Rattle.type_joins.proofs.joining.in_front.Given as goal

abbrev pub invariant-loop-i : goal.invariant-loop-i
invariant-loop-i l = l.kept ≡ l.one ∷ others l.one (take l.i l.all)
