use Rattle.std.proofs.Common.{length}
use Rattle.graph_search.specs.Leveling.{AreLow, room}
use Rattle.graph_search.proofs.leveling.settle.Given as goal

abbrev pub invariant-loop-x : goal.invariant-loop-x
invariant-loop-x l = AreLow l.edges l.owners (length l.fn.levels) l.levels

abbrev pub invariant-loop : goal.invariant-loop
invariant-loop l = AreLow l.edges l.owners (length l.fn.levels) l.levels

abbrev pub decreases-loop : goal.decreases-loop
decreases-loop l = room (length l.fn.levels) l.levels
