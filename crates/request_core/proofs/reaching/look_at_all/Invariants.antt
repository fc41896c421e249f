use Rattle.std.proofs.Common.{◌≡◌, take}
use Rattle.check_values.specs.Roots.{paths_of_rows}
use Rattle.heap_answers.specs.States.{sigs_by}
use Rattle.signature_reach.specs.Along.{AreMet, Grows}
use Rattle.request_core.proofs.reaching.look_at_all.Given as goal

abbrev pub invariant-loop-i : goal.invariant-loop-i
invariant-loop-i g l = record {
  grows : Grows (sigs_by (g.R.HeapReader.state l.fn.reader) l.modules) (paths_of_rows l.modules) l.fn.seen l.fn.rows l.seen l.rows;
  met : AreMet (sigs_by (g.R.HeapReader.state l.fn.reader) l.modules) l.rows (take l.i l.paths);
  at : g.R.HeapReader.at l.reader ≡ g.R.HeapReader.at l.fn.reader;
  state : g.R.HeapReader.state l.reader ≡ g.R.HeapReader.state l.fn.reader;
  part : g.R.HeapReader.part l.reader ≡ g.R.HeapReader.part l.fn.reader;
}
