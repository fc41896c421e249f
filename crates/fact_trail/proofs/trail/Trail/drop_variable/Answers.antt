use Rattle.std.proofs.Common.{ℕ, Option, Some, None, refl, sym, ap, ◌∙◌}
use Rattle.fact_trail.specs.declared.fact.Fact.{Fact}
use Rattle.fact_trail.specs.declared.slot.Slot.TheVariants.{Variable}
use Rattle.fact_trail.specs.Moments.{map_of}
use Rattle.fact_trail.proofs.Dropped.{variable_changed}
use Rattle.fact_trail.proofs.Changes.{drops_at, drops_absent}
use Rattle.fact_trail.proofs.trail.Trail.drop_variable.Goals as goal

pub returns-in-Some-clause-drops : goal.returns-in-Some-clause-drops
returns-in-Some-clause-drops c =
    drops_at (Variable c.args.binding) (Some c.in-Some.fact) c.args.self.now _ c.push_reserved.ensures.items (sym c.in-Some.is ∙ c.remove.ensures.was)
    (variable_changed c.args.binding None (map_of c.args.self.now) _ (λ b. ap (λ (m : ℕ → Option Fact). m b) c.remove.ensures.facts) (λ k. refl))

pub returns-in_default-clause-drops : goal.returns-in_default-clause-drops
returns-in_default-clause-drops c =
    drops_absent (Variable c.args.binding) c.remove.result c.args.self.now _ refl c.remove.ensures.was c.in_default.is
    (variable_changed c.args.binding None (map_of c.args.self.now) _ (λ b. ap (λ (m : ℕ → Option Fact). m b) c.remove.ensures.facts) (λ k. refl))
