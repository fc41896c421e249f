use Rattle.std.proofs.Common.{List, ap, ◌∙◌}
use Rattle.std.specs.List.{flat_map}
use Rattle.js_tree.specs.View.{item_view}
use Rattle.js_tree.specs.declared.items.Item.{Item}
use Rattle.local_signatures.specs.Scope.{bound_by}
use Rattle.named_rows.specs.Seen.{seen}
use Rattle.sig_extract.specs.Seen.{binding_view}
use Rattle.sig_extract.proofs.Whole.{scope_is}
use Rattle.sig_extract.proofs.extracting.extract.Goals as goal

pub extracted-requires : goal.extracted-requires
extracted-requires c =
    scope_is c.args.module.now (seen binding_view c.in_ok-scope.scope.rows.items) (seen binding_view c.in_ok-bindings.bindings.items) c.in_ok-scope.ensures
    (c.in_ok-bindings.ensures ∙ ap (λ (items : List Item). flat_map (λ item. bound_by (item_view item)) items) c.as_slice.ensures)
