use Rattle.std.proofs.Common.{drop}
use Rattle.std.specs.Ordering.{nat_cmp}
use Rattle.std.specs.Cmp.Lexicographic.{slice_cmp}
use Rattle.std.specs.BTreeSet.{contains}
use Rattle.tree_typing.proofs.KeptKeys.{IsKept}
use Rattle.tree_typing.proofs.keys.last_of_each.Given as goal

-- those that were looked at, and the set of their keys
abbrev pub invariant-loop-i : goal.invariant-loop-i
invariant-loop-i l = IsKept (contains (λ a b. slice_cmp nat_cmp a.now b.now) l.keys) l.kept.items (drop l.i l.props)
