use Rattle.std.proofs.Common.{◌≡◌}
use Rattle.std.specs.BTreeMap.{btree_map_len}
use Rattle.fact_trail.specs.Slots.{Map}
use Rattle.fact_trail.specs.Moments.{with_class}
use Rattle.fact_arms.specs.Differences.{over}
use Rattle.fact_arms.proofs.difference.Difference.add_class.Given as goal

-- what is left is before what is said
abbrev pub invariant-loop-binding : goal.invariant-loop-binding
invariant-loop-binding l = record {
  made : (m : Map) → over l.self (with_class l.facts m) ≡ over l.fn.self (with_class l.fn.facts m);
  constant : l.facts.constant ≡ l.fn.facts.constant;
}

abbrev pub decreases-loop-binding : goal.decreases-loop-binding
decreases-loop-binding l = btree_map_len l.facts.rows
