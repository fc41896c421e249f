use Rattle.std.proofs.Common.{length, reverse}
use Rattle.fact_ways.proofs.Nests.{Meets}
use Rattle.fact_ways.proofs.nested.meet_all.Given as goal

abbrev pub invariant-loop-way : goal.invariant-loop-way
invariant-loop-way l = Meets (reverse l.fn.left.items) l.fn.last l.fn.facts (reverse l.left.items) l.last l.facts

abbrev pub decreases-loop-way : goal.decreases-loop-way
decreases-loop-way l = length l.left.items
