use Rattle.std.proofs.Common.{◌≡◌, take}
use Rattle.check_values.specs.Roots.{paths_of_rows}
use Rattle.module_cases.proofs.roots.root_of.Given as goal

abbrev pub invariant-loop-i : goal.invariant-loop-i
invariant-loop-i l = paths_of_rows l.modules ≡ take l.i l.paths
