use Rattle.std.proofs.Common.{◌≡◌, take}
use Rattle.std.specs.List.{flat_map}
use Rattle.js_tree.specs.View.{item_view}
use Rattle.local_signatures.specs.Exports.{told_by}
use Rattle.named_rows.specs.Seen.{seen}
use Rattle.sig_extract.specs.Seen.{binding_view, rows_told}
use Rattle.sig_extract.proofs.exporting.exports.Given as goal

abbrev pub invariant-loop-i : goal.invariant-loop-i
invariant-loop-i l = rows_told (seen binding_view l.scope.rows.items) l.told.items ≡ flat_map (λ item. told_by (seen binding_view l.scope.rows.items) (item_view item)) (take l.i l.items)
