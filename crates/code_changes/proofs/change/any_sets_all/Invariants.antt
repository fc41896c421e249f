use Rattle.std.proofs.Common.{◌≡◌, false, take}
use Rattle.std.specs.List.{list_any}
use Rattle.typing.specs.Changes.{sets_all}
use Rattle.code_changes.specs.View.{changes_view}
use Rattle.code_changes.proofs.change.any_sets_all.Given as goal

abbrev pub invariant-loop-i : goal.invariant-loop-i
invariant-loop-i l = list_any sets_all (changes_view (take l.i l.changes)) ≡ false
