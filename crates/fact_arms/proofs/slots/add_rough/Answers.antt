use Rattle.std.proofs.Common.{ap, ◌∙◌}
use Rattle.fact_trail.specs.declared.slot.Slot.TheVariants.{Variable}
use Rattle.fact_trail.specs.Slots.{is_rough_at}
use Rattle.fact_trail.specs.Rows.{class_facts_of, properties_of}
use Rattle.fact_trail.specs.Moments.{map_of}
use Rattle.fact_trail.proofs.Classes.{by_class}
use Rattle.fact_arms.proofs.Listing.{both_listed}
use Rattle.fact_arms.proofs.slots.add_rough.Goals as goal

pub returns-clause-adds : goal.returns-clause-adds
returns-clause-adds c =
    let constants = c.in_ok-add_variables.ensures in
    let changing = c.in_ok-add_variables-2.ensures in
    let properties = c.in_ok-add_properties.ensures in
    both_listed (λ s. is_rough_at (map_of c.args.trail.now s)) c.add_properties.new.slots.items
    (λ b.
    by_class is_rough_at c.args.trail.now.variables b
    (λ is. properties.keeps (Variable b) (changing.keeps (Variable b) (constants.adds b (c.rough.ensures b (ap (λ v. is_rough_at (class_facts_of v b)) (c.constants.ensures ∙ ap (λ v. v.constants) c.variables.ensures) ∙ is)))))
    (λ is. properties.keeps (Variable b) (changing.adds b (c.rough-2.ensures b (ap (λ v. is_rough_at (class_facts_of v b)) (c.changing.ensures ∙ ap (λ v. v.changing) c.variables-2.ensures) ∙ is)))))
    (λ k is. properties.adds k (c.rough-3.ensures k (ap (λ p. is_rough_at (properties_of p k)) c.properties.ensures ∙ is)))

pub returns-clause-keeps : goal.returns-clause-keeps
returns-clause-keeps c = λ s is. c.in_ok-add_properties.ensures.keeps s (c.in_ok-add_variables-2.ensures.keeps s (c.in_ok-add_variables.ensures.keeps s is))
