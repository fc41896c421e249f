use Rattle.std.proofs.Common.{◌≡◌, take}
use Rattle.std.specs.List.{flat_map}
use Rattle.js_tree.specs.View.{items_view}
use Rattle.local_signatures.specs.Scope.{bound_by, items_from}
use Rattle.named_rows.specs.Seen.{seen}
use Rattle.check_items.specs.Meant.{meant, meant_view}
use Rattle.check_items.proofs.naming.all_names.Given as goal

abbrev pub invariant-loop-i : goal.invariant-loop-i
invariant-loop-i l = seen meant_view l.rows.items ≡ seen meant (flat_map bound_by (items_from (items_view (take l.i l.items))))
