use Rattle.check_values.specs.Roots.{paths_of}
use Rattle.recheck_merging.specs.Rows.{FollowRows}
use Rattle.recheck_merging.proofs.importing.edges_from.Given as goal

abbrev pub invariant-loop-i : goal.invariant-loop-i
invariant-loop-i l = FollowRows (paths_of l.root) l.rows l.i l.edges
