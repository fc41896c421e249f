use Rattle.std.proofs.Common.{◌≡◌, take}
use Rattle.heap_world.specs.World.{emptied}
use Rattle.heap_world.proofs.world.lists.emptied_rows.Given as goal

abbrev pub invariant-loop-row : goal.invariant-loop-row
invariant-loop-row l = l.list ≡ emptied (take l.row-index l.rows) l.e
