use Rattle.std.proofs.Common.{length, reverse}
use Rattle.fact_ways.proofs.Gathers.{Gathers}
use Rattle.fact_ways.proofs.nested.meet_arms.Given as goal

abbrev pub invariant-loop-way : goal.invariant-loop-way
invariant-loop-way l = Gathers (reverse l.fn.arms.items) l.fn.facts (reverse l.arms.items) l.gathered l.facts

abbrev pub decreases-loop-way : goal.decreases-loop-way
decreases-loop-way l = length l.arms.items
