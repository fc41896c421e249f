use Rattle.std.proofs.Common.{◌≡◌, ◌++◌, take}
use Rattle.js_tree.specs.View.{exporteds_view}
use Rattle.module_errors.specs.TopNames.{exportings_in}
use Rattle.check_items.proofs.exports.add_list.Given as goal

abbrev pub invariant-loop-i : goal.invariant-loop-i
invariant-loop-i l = l.out.items ≡ l.fn.out.items ++ exportings_in (exporteds_view (take l.i l.names))
