use Rattle.std.proofs.Common.{◌≡◌, map, take}
use Rattle.named_rows.specs.Seen.{seen}
use Rattle.told_signature.specs.Seen.{told_view}
use Rattle.sig_extract.specs.Seen.{binding_view, named_row}
use Rattle.sig_extract.proofs.telling.told_by_names.Given as goal

abbrev pub invariant-loop-i : goal.invariant-loop-i
invariant-loop-i l = seen told_view l.all.items ≡ map (named_row (seen binding_view l.scope.rows.items)) (seen binding_view (take l.i l.rows))
