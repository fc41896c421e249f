use Rattle.std.proofs.Common.{◌≡◌, map, take}
use Rattle.recheck_checking.specs.Keeping.{kept_in}
use Rattle.recheck_checking.proofs.keeping.old_errors.Given as goal

abbrev pub invariant-loop-i : goal.invariant-loop-i
invariant-loop-i l = l.slots.items ≡ map (kept_in l.was) (take l.i l.from)
