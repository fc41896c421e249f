use Rattle.std.proofs.Common.{refl, ap, ◌∙◌}
use Rattle.fact_trail.specs.declared.trail.Change.TheVariants.{Properties as all_properties}
use Rattle.fact_trail.specs.Slots.{is_property}
use Rattle.fact_trail.specs.Rows.{properties_of}
use Rattle.fact_trail.specs.Moments.{map_of, with_properties}
use Rattle.fact_trail.proofs.Dropped.{properties_dropped}
use Rattle.fact_trail.proofs.Changes.{drops_one, properties_back}
use Rattle.fact_trail.proofs.trail.Trail.drop_properties.Goals as goal

pub returns : goal.returns
returns c =
    drops_one is_property (all_properties c.replace-properties.result) c.args.self.now _ c.push_reserved.ensures.items
    (properties_dropped (map_of c.args.self.now) _ (λ b. refl) (λ k. ap (λ p. properties_of p k) c.replace-properties.ensures.after ∙ c.new.ensures.facts k))
    (properties_back c.replace-properties.result (map_of c.args.self.now) (with_properties c.replace-properties.new.dest (map_of c.args.self.now)) (λ b. refl) (λ k. ap (λ p. properties_of p k) c.replace-properties.ensures.value))
