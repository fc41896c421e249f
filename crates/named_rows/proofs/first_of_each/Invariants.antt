use Rattle.std.proofs.Common.{take}
use Rattle.std.specs.Ordering.{nat_cmp}
use Rattle.std.specs.Cmp.Lexicographic.{slice_cmp}
use Rattle.std.specs.BTreeSet.{contains}
use Rattle.named_rows.proofs.FirstRows.{AreFirst}
use Rattle.named_rows.proofs.first_of_each.Given as goal

abbrev pub invariant-loop-i : goal.invariant-loop-i
invariant-loop-i g l = AreFirst (contains (slice_cmp nat_cmp) l.seen) l.firsts.items (take l.i l.rows)
