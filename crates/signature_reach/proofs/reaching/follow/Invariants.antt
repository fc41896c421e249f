use Rattle.std.proofs.Common.{◌≤◌, ◌+◌, ◌-◌, length}
use Rattle.check_values.specs.Roots.{paths_of_rows}
use Rattle.check_values.specs.Rows.{row_at}
use Rattle.signature_reach.specs.Along.{signed, Grows, IsClosedTo, unseen}
use Rattle.signature_reach.proofs.reaching.follow.Given as goal

abbrev pub invariant-loop-at : goal.invariant-loop-at
invariant-loop-at l = record {
  grows : Grows (row_at (signed l.modules l.signatures)) (paths_of_rows l.modules) l.fn.seen l.fn.found l.seen l.found;
  closed : IsClosedTo (row_at (signed l.modules l.signatures)) l.found l.at;
  within : l.at ≤ length l.found;
}

abbrev pub decreases-loop-at : goal.decreases-loop-at
decreases-loop-at l = length l.found + unseen l.seen (paths_of_rows l.modules) - l.at
