use Rattle.std.proofs.Common.{refl}
use Rattle.fact_trail.specs.Moments.{map_of}
use Rattle.fact_trail.proofs.Dropped.{unset_variable, unset_property}
use Rattle.fact_trail.proofs.trail.Trail.unset.Goals as goal

pub returns-in-Variable-clause-facts : goal.returns-in-Variable-clause-facts
returns-in-Variable-clause-facts c = unset_variable c.in-Variable.binding c.args.slot (map_of c.args.self.now) _ c.in-Variable.is c.remove.ensures.facts (λ k. refl)

pub returns-in-Property-clause-facts : goal.returns-in-Property-clause-facts
returns-in-Property-clause-facts c = unset_property c.in-Property.key c.args.slot (map_of c.args.self.now) _ c.in-Property.is c.remove-in-Property.ensures.facts (λ b. refl)
