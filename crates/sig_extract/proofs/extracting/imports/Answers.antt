use Rattle.std.proofs.Common.{arith}
use Rattle.local_signatures.specs.LocalSignature.{import_row}
use Rattle.told_signature.proofs.Listed.{chosen_next}
use Rattle.sig_extract.specs.Seen.{binding_view}
use Rattle.sig_extract.proofs.extracting.imports.Goals as goal

pub loop-i-preserved : goal.loop-i-preserved
loop-i-preserved g =
    chosen_next binding_view g.as_slice-rows.result.now g.loop-i.i g.index-rows-i.result (omega arith) g.index-rows-i.is import_row
    g.loop-i.imports.items g.add_import.new.imports.items g.loop-i.invariant g.in_ok-add_import.ensures
