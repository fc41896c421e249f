use Rattle.std.proofs.Common.{◌≡◌, ◌++◌, take}
use Rattle.std.specs.List.{flat_map}
use Rattle.merged_signatures.specs.Reach.{paths_of_export}
use Rattle.named_modules.proofs.naming.add_exports.Given as goal

abbrev pub invariant-loop-i : goal.invariant-loop-i
invariant-loop-i l = l.out ≡ l.fn.out ++ (flat_map (λ row. paths_of_export row.1) (take l.i l.all))
