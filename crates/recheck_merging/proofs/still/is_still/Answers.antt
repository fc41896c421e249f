use Rattle.std.proofs.Common.{◌<◌, ℕ, List, All, length, sym, subst, arith}
use Rattle.recheck_merging.proofs.Outside.{edges_low}
use Rattle.recheck_merging.proofs.still.is_still.Goals as goal

pub all_on-requires : goal.all_on-requires
all_on-requires c =
    subst (λ (l : List ℕ). All (λ y. y < length c.args.same.now) l) (sym c.as_slice-imports.ensures)
    (edges_low c.args.edit.now.sources.now c.args.edit.now.plan.now c.args.place _ c.index.result.now c.requires.edit.plan c.requires.many (let low = c.requires.low in let many = c.requires.edit.plan.edges.len in omega arith) c.index.ensures)
