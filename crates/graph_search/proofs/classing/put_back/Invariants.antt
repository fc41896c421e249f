use Rattle.std.proofs.Common.{take}
use Rattle.graph_search.specs.Searching.{PutsBack}
use Rattle.graph_search.proofs.classing.put_back.Given as goal

abbrev pub invariant-loop-x : goal.invariant-loop-x
invariant-loop-x l = PutsBack (take l.x-index l.xs) l.fn.left l.fn.inside l.left l.inside
