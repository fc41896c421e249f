use Rattle.std.specs.BTreeMap.{btree_map_len}
use Rattle.fact_trail.specs.Slots.{is_named}
use Rattle.fact_trail.proofs.Changes.{Loses}
use Rattle.fact_trail.proofs.trail.Trail.drop_named.Given as goal

-- the other facts are as they were
abbrev pub invariant-loop-key : goal.invariant-loop-key
invariant-loop-key l = Loses (is_named l.name) l.fn.self l.self

abbrev pub decreases-loop-key : goal.decreases-loop-key
decreases-loop-key l = btree_map_len l.self.properties.rows
