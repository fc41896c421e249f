use Rattle.std.proofs.Common.{◌≡◌, ◌++◌, take}
use Rattle.std.specs.List.{flat_map}
use Rattle.answer_print.specs.Lines.{export_line}
use Rattle.answer_print.proofs.rows.push_exports.Given as goal

abbrev pub invariant-loop-i : goal.invariant-loop-i
invariant-loop-i l = record {
  written : l.out.items ≡ l.fn.out.items ++ flat_map (λ row. export_line row.0 row.1) (take l.i l.rows);
}
