use Rattle.check_values.specs.Roots.{paths_of}
use Rattle.recheck_reach.specs.Named.{FollowPaths}
use Rattle.recheck_reach.proofs.naming.numbers_of.Given as goal

abbrev pub invariant-loop-i : goal.invariant-loop-i
invariant-loop-i l = FollowPaths (paths_of l.root) l.paths l.i l.numbers
