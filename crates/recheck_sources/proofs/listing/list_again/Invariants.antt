use Rattle.std.proofs.Common.{◌≡◌, map, take}
use Rattle.check_values.specs.Roots.{paths_of}
use Rattle.path_numbers.specs.recheck_law.specs.Lists.{row_again}
use Rattle.recheck_sources.proofs.listing.list_again.Given as goal

abbrev pub invariant-loop-i : goal.invariant-loop-i
invariant-loop-i l = l.rows ≡ map (row_again (paths_of l.root) l.path) (take l.i l.old)
