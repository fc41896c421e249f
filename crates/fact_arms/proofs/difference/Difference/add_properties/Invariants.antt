use Rattle.std.proofs.Common.{◌≡◌}
use Rattle.std.specs.BTreeMap.{btree_map_len}
use Rattle.fact_trail.specs.Slots.{Map}
use Rattle.fact_trail.specs.Moments.{with_properties}
use Rattle.fact_arms.specs.Differences.{over}
use Rattle.fact_arms.proofs.difference.Difference.add_properties.Given as goal

-- what is left is before what is said
abbrev pub invariant-loop-key : goal.invariant-loop-key
invariant-loop-key l = (m : Map) → over l.self (with_properties l.properties m) ≡ over l.fn.self (with_properties l.fn.properties m)

abbrev pub decreases-loop-key : goal.decreases-loop-key
decreases-loop-key l = btree_map_len l.properties.rows
