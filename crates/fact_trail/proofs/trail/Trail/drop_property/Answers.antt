use Rattle.std.proofs.Common.{Option, Some, None, refl, sym, ap, ◌∙◌}
use Rattle.fact_trail.specs.declared.fact.Fact.{Fact}
use Rattle.fact_trail.specs.declared.slot.Slot.TheVariants.{Property}
use Rattle.fact_trail.specs.Slots.{Key}
use Rattle.fact_trail.specs.Moments.{map_of}
use Rattle.fact_trail.proofs.Dropped.{property_changed}
use Rattle.fact_trail.proofs.Changes.{drops_at, drops_absent}
use Rattle.fact_trail.proofs.trail.Trail.drop_property.Goals as goal

pub returns-in-Some-clause-drops : goal.returns-in-Some-clause-drops
returns-in-Some-clause-drops c =
    drops_at (Property c.args.key) (Some c.in-Some.fact) c.args.self.now _ c.push_reserved.ensures.items (sym c.in-Some.is ∙ c.remove.ensures.was)
    (property_changed c.args.key None (map_of c.args.self.now) _ (λ b. refl) (λ k. ap (λ (m : Key → Option Fact). m k) c.remove.ensures.facts))

pub returns-in_default-clause-drops : goal.returns-in_default-clause-drops
returns-in_default-clause-drops c =
    drops_absent (Property c.args.key) c.remove.result c.args.self.now _ refl c.remove.ensures.was c.in_default.is
    (property_changed c.args.key None (map_of c.args.self.now) _ (λ b. refl) (λ k. ap (λ (m : Key → Option Fact). m k) c.remove.ensures.facts))
