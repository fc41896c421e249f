use Rattle.std.proofs.Common.{take}
use Rattle.check_values.specs.Roots.{paths_of_rows}
use Rattle.check_values.specs.Rows.{row_at}
use Rattle.signature_reach.specs.Along.{signed, AreMet, Grows}
use Rattle.signature_reach.proofs.looking.look_at_all.Given as goal

abbrev pub invariant-loop-i : goal.invariant-loop-i
invariant-loop-i l = record {
  grows : Grows (row_at (signed l.modules l.signatures)) (paths_of_rows l.modules) l.fn.seen l.fn.found l.seen l.found;
  met : AreMet (row_at (signed l.modules l.signatures)) l.found (take l.i l.paths);
}
