use Rattle.std.proofs.Common.{◌≡◌, take}
use Rattle.js_tree.specs.View.{items_view}
use Rattle.module_errors.specs.TopNames.{exportings_of}
use Rattle.check_items.proofs.exports.all_exportings.Given as goal

abbrev pub invariant-loop-i : goal.invariant-loop-i
invariant-loop-i l = l.all.items ≡ exportings_of (items_view (take l.i l.items))
