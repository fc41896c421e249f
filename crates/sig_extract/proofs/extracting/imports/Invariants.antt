use Rattle.std.proofs.Common.{◌≡◌, take}
use Rattle.std.specs.List.{filter_map}
use Rattle.local_signatures.specs.LocalSignature.{import_row}
use Rattle.named_rows.specs.Seen.{seen}
use Rattle.sig_extract.specs.Seen.{binding_view}
use Rattle.sig_extract.proofs.extracting.imports.Given as goal

abbrev pub invariant-loop-i : goal.invariant-loop-i
invariant-loop-i l = l.imports.items ≡ filter_map import_row (seen binding_view (take l.i l.rows))
