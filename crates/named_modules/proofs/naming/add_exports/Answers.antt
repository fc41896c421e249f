use Rattle.std.proofs.Common.{◌++◌, List, ℕ, sym, ap, ◌∙◌, arith}
use Rattle.check_values.specs.declared.signatures.Export.{Export}
use Rattle.merged_signatures.specs.Reach.{paths_of_export}
use Rattle.named_modules.proofs.Parts.{next}
use Rattle.named_modules.proofs.naming.add_exports.Goals as goal

pub loop-i-preserved : goal.loop-i-preserved
loop-i-preserved c =
    next (λ (row : List ℕ × Export). paths_of_export row.1) c.args.all.now c.loop-i.i c.index-all-i.result c.args.out.now c.loop-i.out c.add_export.new.out (omega arith) c.index-all-i.is c.loop-i.invariant
    (c.in_ok-add_export.ensures ∙ ap (λ (row : List ℕ × Export). c.loop-i.out ++ (paths_of_export row.1)) (sym c.index-all-i.is))
