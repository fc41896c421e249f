use Rattle.std.specs.BTreeMap.{btree_map_len}
use Rattle.fact_trail.specs.Slots.{is_other_named}
use Rattle.fact_trail.proofs.Changes.{Loses}
use Rattle.fact_trail.proofs.trail.Trail.drop_other_named.Given as goal

-- the other facts are as they were
abbrev pub invariant-loop-other : goal.invariant-loop-other
invariant-loop-other l = Loses (is_other_named l.key) l.fn.self l.self

abbrev pub decreases-loop-other : goal.decreases-loop-other
decreases-loop-other l = btree_map_len l.self.properties.rows
