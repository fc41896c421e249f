use Rattle.check_values.specs.Roots.{paths_of_rows}
use Rattle.check_values.specs.Rows.{row_at}
use Rattle.signature_reach.specs.Along.{signed, Grows, AreStartedTo}
use Rattle.signature_reach.proofs.looking.look_at_starts.Given as goal

abbrev pub invariant-loop-i : goal.invariant-loop-i
invariant-loop-i l = record {
  grows : Grows (row_at (signed l.modules l.signatures)) (paths_of_rows l.modules) l.fn.seen l.fn.found l.seen l.found;
  started : AreStartedTo (row_at (signed l.modules l.signatures)) l.found l.lists l.numbers l.i;
}
