use Rattle.std.proofs.Common.{◌≡◌, ◌≤◌, ◌-◌, length, take}
use Rattle.flow_base.specs.Outside.{appended}
use Rattle.script_run.proofs.sinks.write_all.Given as goal

abbrev pub invariant-loop-at : goal.invariant-loop-at
invariant-loop-at g l = record {
  within : l.at ≤ length l.bytes;
  written : (g.K.Sink.seen l.out).written ≡ appended (g.K.Sink.seen l.fn.out).written (take l.at l.bytes);
  faults : (g.K.Sink.seen l.out).faults ≡ (g.K.Sink.seen l.fn.out).faults;
}

abbrev pub decreases-loop-at : goal.decreases-loop-at
decreases-loop-at g l = length l.bytes - l.at
