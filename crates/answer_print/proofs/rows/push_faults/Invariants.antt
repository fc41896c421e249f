use Rattle.std.proofs.Common.{◌≡◌, ◌++◌, take}
use Rattle.std.specs.List.{flat_map}
use Rattle.answer_print.specs.Lines.{located_line}
use Rattle.answer_print.proofs.rows.push_faults.Given as goal

abbrev pub invariant-loop-i : goal.invariant-loop-i
invariant-loop-i l = record {
  written : l.out.items ≡ l.fn.out.items ++ flat_map located_line (take l.i l.errors);
}
