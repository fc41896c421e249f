use Rattle.std.proofs.Common.{◌≡◌, ◌≤◌, ◌-◌, [], length}
use Rattle.script_reader.specs.Lines.{bytes_left, lines_left, TakesFront}
use Rattle.script_run.specs.Transcript.{start, MOST_LINES}
use Rattle.script_run.specs.Session.{standing_in}
use Rattle.script_run.specs.Steps.{walk_state, HasWalked}
use Rattle.script_run.proofs.walk.run.Given as goal

abbrev pub invariant-loop-reader : goal.invariant-loop-reader
invariant-loop-reader g l = record {
  walked : HasWalked l.fn.modules (length l.fn.askers.items) l.fn.listed (lines_left [] (g.S.Source.seen l.fn.script).left) (lines_left l.reader (g.S.Source.seen l.script).left) l.taken
      (walk_state (start l.fn.listed (length l.fn.askers.items)) (g.F.Folder.seen l.fn.folder) (g.K.Sink.seen l.fn.out)) (walk_state (standing_in l.session) (g.F.Folder.seen l.folder) (g.K.Sink.seen l.out));
  front : TakesFront (g.S.Source.seen l.fn.script).left (bytes_left l.reader (g.S.Source.seen l.script).left);
  modules : l.session.waiting.capacity ≡ l.fn.modules;
  few : l.taken ≤ MOST_LINES;
  told : (g.F.Folder.seen l.folder).told ≡ (g.F.Folder.seen l.fn.folder).told;
  folder_later : (g.F.Folder.seen l.fn.folder).faults ≤ (g.F.Folder.seen l.folder).faults;
  script_faults : (g.S.Source.seen l.script).faults ≡ (g.S.Source.seen l.fn.script).faults;
  sink_faults : (g.K.Sink.seen l.out).faults ≡ (g.K.Sink.seen l.fn.out).faults;
}

abbrev pub decreases-loop-reader : goal.decreases-loop-reader
decreases-loop-reader g l = MOST_LINES - l.taken
