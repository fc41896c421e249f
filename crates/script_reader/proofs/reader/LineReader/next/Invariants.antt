use Rattle.std.proofs.Common.{◌≡◌}
use Rattle.script_reader.specs.Lines.{HasLine, bytes_left}
use Rattle.script_reader.specs.Steps.{Reads}
use Rattle.script_reader.specs.declared.reader.Step.TheVariants.{Line}
use Rattle.script_reader.proofs.Joins.{work_left}
use Rattle.script_reader.proofs.reader.LineReader.next.Given as goal

abbrev pub invariant-loop-line : goal.invariant-loop-line
invariant-loop-line g l = record {
  reads : Reads l.step l.line.items (bytes_left l.fn.self (g.S.Source.seen l.fn.source).left) (bytes_left l.self-inside.window (g.S.Source.seen l.source).left);
  faults : (g.S.Source.seen l.source).faults ≡ (g.S.Source.seen l.fn.source).faults;
  at_once : HasLine l.fn.self → l.step ≡ Line;
  in_hand : HasLine l.fn.self → l.source ≡ l.fn.source;
}

abbrev pub decreases-loop-line : goal.decreases-loop-line
decreases-loop-line g l = work_left l.step l.line.items
