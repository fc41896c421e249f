use Rattle.std.proofs.Common.{◌≡◌}
use Rattle.std.specs.BTreeMap.{btree_map_len}
use Rattle.fact_trail.specs.Slots.{Map}
use Rattle.fact_arms.specs.Differences.{over, with_variables}
use Rattle.fact_arms.proofs.difference.Difference.add_variables.Given as goal

-- what is left is before what is said
abbrev pub invariant-loop-binding : goal.invariant-loop-binding
invariant-loop-binding l = record {
  made : (m : Map) → over l.self (with_variables l.rows m) ≡ over l.fn.self (with_variables l.fn.rows m);
  gone : l.self.gone ≡ l.fn.self.gone;
}

abbrev pub decreases-loop-binding : goal.decreases-loop-binding
decreases-loop-binding l = btree_map_len l.rows
