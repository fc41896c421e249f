use Rattle.std.proofs.Common.{◌≡◌, replicate, false}
use Rattle.heap_world.proofs.world.lists.empty_rows.Given as goal

abbrev pub invariant-loop-i : goal.invariant-loop-i
invariant-loop-i l = l.list ≡ replicate l._i (replicate l.count false)
