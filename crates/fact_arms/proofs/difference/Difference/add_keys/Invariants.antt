use Rattle.std.proofs.Common.{◌≡◌}
use Rattle.std.specs.BTreeMap.{btree_map_len}
use Rattle.fact_trail.specs.Slots.{Map}
use Rattle.fact_arms.specs.Differences.{over, with_keys}
use Rattle.fact_arms.proofs.difference.Difference.add_keys.Given as goal

-- what is left is before what is said
abbrev pub invariant-loop-key : goal.invariant-loop-key
invariant-loop-key l = record {
  made : (m : Map) → over l.self (with_keys l.rows m) ≡ over l.fn.self (with_keys l.fn.rows m);
  gone : l.self.gone ≡ l.fn.self.gone;
}

abbrev pub decreases-loop-key : goal.decreases-loop-key
decreases-loop-key l = btree_map_len l.rows
