use Rattle.std.proofs.Common.{◌≡◌, take}
use Rattle.std.specs.List.{filter_map}
use Rattle.typing.specs.Names.{numbers_of}
use Rattle.typing.specs.Changes.{variable_set}
use Rattle.scopes.specs.View.{scope_view}
use Rattle.code_changes.specs.View.{changes_view}
use Rattle.code_changes.proofs.change.numbers_set.Given as goal

abbrev pub invariant-loop-i : goal.invariant-loop-i
invariant-loop-i l = l.numbers ≡ numbers_of (scope_view l.scope) (filter_map variable_set (changes_view (take l.i l.changes)))
