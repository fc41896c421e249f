use Rattle.std.proofs.Common.{◌≡◌, take}
use Rattle.std.specs.List.{flat_map}
use Rattle.js_tree.specs.View.{item_view}
use Rattle.local_signatures.specs.Scope.{bound_by}
use Rattle.named_rows.specs.Seen.{seen}
use Rattle.sig_extract.specs.Seen.{binding_view}
use Rattle.sig_extract.proofs.binding.bindings.Given as goal

abbrev pub invariant-loop-i : goal.invariant-loop-i
invariant-loop-i l = seen binding_view l.rows.items ≡ flat_map (λ item. bound_by (item_view item)) (take l.i l.items)
