use Rattle.std.specs.BTreeSet.{btree_set_len}
use Rattle.fact_trail.specs.Slots.{is_of}
use Rattle.fact_trail.proofs.Changes.{Loses}
use Rattle.fact_trail.proofs.trail.Trail.drop_of.Given as goal

-- the other facts are as they were
abbrev pub invariant-loop-key : goal.invariant-loop-key
invariant-loop-key l = Loses (is_of l.binding) l.fn.self l.self

abbrev pub decreases-loop-key : goal.decreases-loop-key
decreases-loop-key l = btree_set_len l.self.properties.turned
