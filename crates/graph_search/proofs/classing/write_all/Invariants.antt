use Rattle.std.proofs.Common.{take}
use Rattle.graph_search.specs.Searching.{Writes}
use Rattle.graph_search.proofs.classing.write_all.Given as goal

abbrev pub invariant-loop-x : goal.invariant-loop-x
invariant-loop-x l = Writes (take l.x-index l.xs) l.p l.fn.numbers l.numbers
