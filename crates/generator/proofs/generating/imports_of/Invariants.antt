use Rattle.std.proofs.Common.{◌≡◌, ◌-◌, map}
use Rattle.std.specs.List.{range_with_len}
use Rattle.generator.specs.Draws.{imported, state_behind}
use Rattle.generator.proofs.generating.imports_of.Given as goal

abbrev pub invariant-loop-i : goal.invariant-loop-i
invariant-loop-i l = record {
  modules : l.modules.items ≡ map (imported l.seed) (range_with_len 0 l.i);
  state : l.state ≡ state_behind l.seed (l.i - 1);
}
