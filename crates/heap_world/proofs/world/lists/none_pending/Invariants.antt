use Rattle.std.proofs.Common.{◌≡◌, replicate, None}
use Rattle.heap_world.proofs.world.lists.none_pending.Given as goal

abbrev pub invariant-loop-i : goal.invariant-loop-i
invariant-loop-i g l = l.list ≡ replicate l._i None
