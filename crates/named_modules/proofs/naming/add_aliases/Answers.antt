use Rattle.std.proofs.Common.{◌++◌, List, ℕ, sym, ap, ◌∙◌, arith}
use Rattle.type_values.specs.declared.types.FlowType.{FlowType}
use Rattle.merged_signatures.specs.Reach.{paths_in}
use Rattle.named_modules.proofs.Parts.{next}
use Rattle.named_modules.proofs.naming.add_aliases.Goals as goal

pub loop-i-preserved : goal.loop-i-preserved
loop-i-preserved c =
    next (λ (row : List ℕ × FlowType). paths_in row.1) c.args.all.now c.loop-i.i c.index-all-i.result c.args.out.now c.loop-i.out c.add_type.new.out (omega arith) c.index-all-i.is c.loop-i.invariant
    (c.in_ok-add_type.ensures ∙ ap (λ (row : List ℕ × FlowType). c.loop-i.out ++ (paths_in row.1)) (sym c.index-all-i.is))
