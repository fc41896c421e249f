use Rattle.std.proofs.Common.{◌≡◌, ◌-◌, ◌+◌, map}
use Rattle.std.specs.List.{range_with_len}
use Rattle.generator.specs.Draws.{edited, state_behind}
use Rattle.generator.specs.Modules.{module_in}
use Rattle.generator.proofs.generating.edits_of.Given as goal

abbrev pub invariant-loop-round : goal.invariant-loop-round
invariant-loop-round l = record {
  so_far : l.edits.items ≡ map (λ round. module_in l.seed (edited l.n l.seed round) round) (range_with_len 1 (l.round - 1));
  state : l.state ≡ state_behind l.seed (l.n - 1 + (l.round - 1));
}
