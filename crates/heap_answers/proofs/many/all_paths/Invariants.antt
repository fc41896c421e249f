use Rattle.std.proofs.Common.{◌≡◌, take}
use Rattle.check_values.specs.Roots.{paths_of_rows}
use Rattle.heap_answers.proofs.many.all_paths.Given as goal

abbrev pub invariant-loop-i : goal.invariant-loop-i
invariant-loop-i l = record {
  so_far : l.paths.items ≡ paths_of_rows (take l.i l.modules);
}
