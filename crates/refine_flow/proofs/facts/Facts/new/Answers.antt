use Rattle.std.proofs.Common.{Some, ap}
use Rattle.fact_trail.specs.Moments.{map_of}
use Rattle.fact_trail.proofs.Changes.{fresh_at_first}
use Rattle.refine_flow.proofs.Types.{types_none}
use Rattle.refine_flow.proofs.facts.Facts.new.Goals as goal

pub invariant_of-result : goal.invariant_of-result
invariant_of-result c = record { tidy = λ s beyond. fresh_at_first c.new-2.result s c.new-2.ensures.changes (c.new-2.ensures.facts s) }

pub returns-clause-facts : goal.returns-clause-facts
returns-clause-facts c = ap Some (types_none c.new.result (map_of c.new-2.result) (λ s. c.new-2.ensures.facts s))
