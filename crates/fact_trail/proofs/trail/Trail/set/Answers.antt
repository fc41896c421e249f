use Rattle.std.proofs.Common.{Some, refl}
use Rattle.fact_trail.specs.Moments.{map_of}
use Rattle.fact_trail.proofs.Dropped.{set_variable, set_property, kept_variable, kept_property}
use Rattle.fact_trail.proofs.trail.Trail.set.Goals as goal

pub returns-in-Variable-clause-facts : goal.returns-in-Variable-clause-facts
returns-in-Variable-clause-facts c = set_variable c.insert.result c.in-Variable.binding (Some c.args.fact) c.args.slot (map_of c.args.self.now) _ c.in-Variable.is c.insert.ensures.facts (λ k. refl)

pub returns-in-Variable-clause-err : goal.returns-in-Variable-clause-err
returns-in-Variable-clause-err c = kept_variable c.insert.result (map_of c.args.self.now) _ c.insert.ensures.err (λ k. refl)

pub returns-in-Property-clause-facts : goal.returns-in-Property-clause-facts
returns-in-Property-clause-facts c =
    let insert = c.insert-in-Property in set_property insert.result c.in-Property.key (Some c.args.fact) c.args.slot (map_of c.args.self.now) _ c.in-Property.is insert.ensures.facts (λ b. refl)

pub returns-in-Property-clause-err : goal.returns-in-Property-clause-err
returns-in-Property-clause-err c = let insert = c.insert-in-Property in kept_property insert.result (map_of c.args.self.now) _ insert.ensures.err (λ b. refl)
