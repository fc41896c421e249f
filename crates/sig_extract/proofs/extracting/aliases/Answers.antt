use Rattle.std.proofs.Common.{arith}
use Rattle.local_signatures.specs.LocalSignature.{alias_row}
use Rattle.named_rows.specs.Seen.{seen}
use Rattle.told_signature.proofs.Listed.{chosen_next}
use Rattle.sig_extract.specs.Seen.{binding_view}
use Rattle.sig_extract.proofs.extracting.aliases.Goals as goal

pub loop-i-preserved : goal.loop-i-preserved
loop-i-preserved g =
    chosen_next binding_view g.as_slice-rows.result.now g.loop-i.i g.index-rows-i.result (omega arith) g.index-rows-i.is (alias_row (seen binding_view g.args.scope.now.rows.items))
    g.loop-i.aliases.items g.add_alias.new.aliases.items g.loop-i.invariant g.in_ok-add_alias.ensures
