use Rattle.std.proofs.Common.{◌≡◌, ◌++◌, take}
use Rattle.std.specs.List.{flat_map}
use Rattle.merged_signatures.specs.Reach.{paths_in}
use Rattle.named_modules.proofs.naming.add_aliases.Given as goal

abbrev pub invariant-loop-i : goal.invariant-loop-i
invariant-loop-i l = l.out ≡ l.fn.out ++ (flat_map (λ row. paths_in row.1) (take l.i l.all))
