use Rattle.std.proofs.Common.{◌≡◌, length, take}
use Rattle.recheck_checking.specs.Keeping.{AreCleared}
use Rattle.recheck_checking.proofs.keeping.clear_all.Given as goal

-- what was emptied so far
abbrev pub invariant-loop-i : goal.invariant-loop-i
invariant-loop-i l = record {
  size : length l.slots.items ≡ length l.fn.slots.items;
  cleared : AreCleared (take l.i l.numbers) l.fn.slots.items l.slots.items;
}
