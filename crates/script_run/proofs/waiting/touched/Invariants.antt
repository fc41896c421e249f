use Rattle.std.proofs.Common.{◌≡◌, take, []}
use Rattle.pending_edits.specs.Counting.{StandsOn}
use Rattle.script_run.specs.Transcript.{to_touch}
use Rattle.script_run.proofs.waiting.touched.Given as goal

abbrev pub invariant-loop-i : goal.invariant-loop-i
invariant-loop-i l = record {
  edits : l.edits.edits ≡ to_touch (take l.i l.listed);
  capacity : l.edits.capacity ≡ l.modules;
  stands : StandsOn [] l.edits;
}
