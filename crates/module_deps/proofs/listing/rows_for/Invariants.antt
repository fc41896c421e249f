use Rattle.std.specs.Ordering.{nat_cmp}
use Rattle.std.specs.Cmp.Lexicographic.{slice_cmp}
use Rattle.std.specs.BTreeSet.{contains}
use Rattle.check_values.specs.Roots.{paths_of}
use Rattle.module_deps.proofs.EachOnce.{AreRows, so_far}
use Rattle.module_deps.proofs.listing.rows_for.Given as goal

abbrev pub invariant-loop-i : goal.invariant-loop-i
invariant-loop-i l = AreRows (paths_of l.root) l.from (contains (λ a b. slice_cmp nat_cmp a.now b.now) l.seen) l.rows (so_far l.specs l.i)
