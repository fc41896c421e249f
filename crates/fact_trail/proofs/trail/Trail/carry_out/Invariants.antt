use Rattle.std.proofs.Common.{length}
use Rattle.fact_trail.proofs.Planning.{CarriesOut}
use Rattle.fact_trail.proofs.trail.Trail.carry_out.Given as goal

abbrev pub invariant-loop-planned : goal.invariant-loop-planned
invariant-loop-planned l = CarriesOut l.plan.items l.fn.plan.items l.fn.self l.self

abbrev pub decreases-loop-planned : goal.decreases-loop-planned
decreases-loop-planned l = length l.plan.items
