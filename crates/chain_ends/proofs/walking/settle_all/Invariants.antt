use Rattle.std.proofs.Common.{◌≡◌, ◌<◌, ℕ, [], Some, slice_get}
use Rattle.chain_ends.specs.declared.walking.Mark.TheVariants.{New}
use Rattle.chain_ends.specs.Walking.{IsWalk}
use Rattle.chain_ends.proofs.walking.settle_all.Given as goal

abbrev pub invariant-loop-start : goal.invariant-loop-start
invariant-loop-start l = record {
  walk : IsWalk l.links l.marks.items [];
  done : (n : ℕ) → n < l.start → slice_get l.marks.items n ≡ Some New → ⊥;
}
