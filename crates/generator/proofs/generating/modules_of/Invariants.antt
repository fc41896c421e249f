use Rattle.std.proofs.Common.{◌≡◌, map}
use Rattle.std.specs.List.{range_with_len}
use Rattle.generator.specs.Modules.{module_in}
use Rattle.generator.proofs.generating.modules_of.Given as goal

abbrev pub invariant-loop-i : goal.invariant-loop-i
invariant-loop-i l = record {
  so_far : l.modules.items ≡ map (λ i. module_in l.seed i 0) (range_with_len 0 l.i);
}
