use Rattle.std.proofs.Common.{◌≡◌, ◌≤◌, ◌+◌}
use Rattle.script_run.specs.Session.{standing_in}
use Rattle.generated_run.proofs.Parts.{SoFar}
use Rattle.generated_run.proofs.turns.put_and_check_all.Given as goal

abbrev pub invariant-loop-i : goal.invariant-loop-i
invariant-loop-i g l = record {
  gone : SoFar l.fn.session.waiting.capacity l.fn.folder l.edits (standing_in l.fn.session) (g.K.Sink.seen l.fn.out).written l.i (standing_in l.session) (g.K.Sink.seen l.out).written;
  modules : l.session.waiting.capacity ≡ l.fn.session.waiting.capacity;
  version : l.session.heap.version ≤ l.fn.session.heap.version + l.i;
  lanes : l.session.lanes ≡ l.fn.session.lanes;
  same : l.folder ≡ l.fn.folder;
  sink_faults : (g.K.Sink.seen l.out).faults ≡ (g.K.Sink.seen l.fn.out).faults;
}
