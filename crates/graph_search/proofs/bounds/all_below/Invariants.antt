use Rattle.std.proofs.Common.{ℕ, ◌<◌, take}
use Rattle.graph_search.specs.Cycles.{Has}
use Rattle.graph_search.proofs.bounds.all_below.Given as goal

abbrev pub invariant-loop-number : goal.invariant-loop-number
invariant-loop-number l = (y : ℕ) → Has (take l.number-index l.numbers) y → y < l.count
