use Rattle.std.proofs.Common.{◌≡◌, List, ℕ, take}
use Rattle.std.specs.Ordering.{nat_cmp}
use Rattle.std.specs.Cmp.Lexicographic.{slice_cmp}
use Rattle.std.specs.BTreeSet.{contains}
use Rattle.typing.specs.Changes.{is_set_inside}
use Rattle.code_changes.specs.View.{changes_view}
use Rattle.code_changes.proofs.change.inner_names.Given as goal

abbrev pub invariant-loop-i : goal.invariant-loop-i
invariant-loop-i l = (name : List ℕ) → contains (slice_cmp nat_cmp) l.names name ≡ is_set_inside (changes_view (take l.i l.changes)) name
