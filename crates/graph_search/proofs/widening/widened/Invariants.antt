use Rattle.std.proofs.Common.{◌≡◌, take}
use Rattle.graph_search.proofs.widening.widened.Given as goal

abbrev pub invariant-loop-list : goal.invariant-loop-list
invariant-loop-list l = l.wide.items ≡ take l.list-index l.lists
