use Rattle.std.proofs.Common.{◌≡◌, ◌≤◌, ◌+◌, ◌-◌, length}
use Rattle.check_values.specs.Roots.{paths_of_rows}
use Rattle.heap_answers.specs.States.{sigs_by}
use Rattle.signature_reach.specs.Along.{Grows, IsClosedTo, unseen}
use Rattle.request_core.proofs.reaching.follow.Given as goal

abbrev pub invariant-loop-at : goal.invariant-loop-at
invariant-loop-at g l = record {
  grows : Grows (sigs_by (g.R.HeapReader.state l.fn.reader) l.modules) (paths_of_rows l.modules) l.fn.seen l.fn.rows l.seen l.rows;
  closed : IsClosedTo (sigs_by (g.R.HeapReader.state l.fn.reader) l.modules) l.rows l.at;
  within : l.at ≤ length l.rows;
  at : g.R.HeapReader.at l.reader ≡ g.R.HeapReader.at l.fn.reader;
  state : g.R.HeapReader.state l.reader ≡ g.R.HeapReader.state l.fn.reader;
  part : g.R.HeapReader.part l.reader ≡ g.R.HeapReader.part l.fn.reader;
}

abbrev pub decreases-loop-at : goal.decreases-loop-at
decreases-loop-at g l = length l.rows + unseen l.seen (paths_of_rows l.modules) - l.at
