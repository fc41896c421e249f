use Rattle.std.proofs.Common.{◌≡◌, take}
use Rattle.std.specs.List.{filter_map}
use Rattle.typing.specs.Changes.{property_set}
use Rattle.code_changes.specs.View.{changes_view}
use Rattle.code_changes.proofs.change.properties_set.Given as goal

abbrev pub invariant-loop-i : goal.invariant-loop-i
invariant-loop-i l = l.names ≡ filter_map property_set (changes_view (take l.i l.changes))
