use Rattle.std.proofs.Common.{◌≡◌, ◌++◌, take}
use Rattle.js_tree.specs.View.{importeds_view}
use Rattle.local_signatures.specs.Scope.{bound_importeds}
use Rattle.named_rows.specs.Seen.{seen}
use Rattle.check_items.specs.Meant.{meant, meant_view}
use Rattle.check_items.proofs.naming.add_list.Given as goal

abbrev pub invariant-loop-i : goal.invariant-loop-i
invariant-loop-i l = seen meant_view l.rows.items ≡ seen meant_view l.fn.rows.items ++ seen meant (bound_importeds l.is_type l.specifier (importeds_view (take l.i l.names)))
