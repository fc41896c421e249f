use Rattle.std.proofs.Common.{◌≡◌, ◌≤◌, []}
use Rattle.pending_edits.specs.Counting.{counted, StandsOn}
use Rattle.run_cases.proofs.calls.touched.Given as goal

abbrev pub invariant-loop-i : goal.invariant-loop-i
invariant-loop-i l = record {
  capacity : l.edits.capacity ≡ 3;
  stands : StandsOn [] l.edits;
  few : counted [] l.edits.edits ≤ 3;
}
