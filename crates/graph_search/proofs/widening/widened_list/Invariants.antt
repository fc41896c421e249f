use Rattle.std.proofs.Common.{◌≡◌, take}
use Rattle.graph_search.proofs.widening.widened_list.Given as goal

abbrev pub invariant-loop-number : goal.invariant-loop-number
invariant-loop-number l = l.wide ≡ take l.number-index l.numbers
