use Rattle.std.proofs.Common.{take}
use Rattle.check_values.specs.Roots.{paths_of}
use Rattle.recheck_merging.specs.Rows.{FollowLists}
use Rattle.recheck_merging.proofs.importing.edges_by.Given as goal

abbrev pub invariant-loop-i : goal.invariant-loop-i
invariant-loop-i l = FollowLists (paths_of l.root) (take l.i l.lists) l.edges.items
