use Rattle.std.proofs.Common.{◌≡◌, take}
use Rattle.code_changes.specs.View.{changes_view}
use Rattle.js_tree.specs.View.{items_view}
use Rattle.module_errors.specs.TopNames.{changes_of_items}
use Rattle.check_items.proofs.binding.set_inside.Given as goal

abbrev pub invariant-loop-i : goal.invariant-loop-i
invariant-loop-i l = changes_view l.changes ≡ changes_of_items (items_view (take l.i l.items))
