use Rattle.std.proofs.Common.{◌≤◌, length, vec_capacity}
use Rattle.fact_arms.specs.Differences.{GoesBack}
use Rattle.fact_arms.proofs.trails.go_back.Given as goal

abbrev pub invariant-loop-trail : goal.invariant-loop-trail
invariant-loop-trail l = record {
  within : l.number ≤ length l.trail.changes.items;
  goes : GoesBack l.fn.trail l.trail;
  capacity : vec_capacity l.fn.trail.changes ≤ vec_capacity l.trail.changes;
}

abbrev pub decreases-loop-trail : goal.decreases-loop-trail
decreases-loop-trail l = length l.trail.changes.items
