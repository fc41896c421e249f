use Rattle.fact_trail.specs.declared.slot.Slot.TheVariants.{Variable, Property}
use Rattle.fact_arms.specs.Gathering.{has_slot}
use Rattle.fact_arms.proofs.Listing.{both_listed}
use Rattle.fact_arms.proofs.Freshening.{fresh_listed}
use Rattle.fact_arms.proofs.fresh.Fresh.list.Goals as goal

pub returns-clause-adds : goal.returns-clause-adds
returns-clause-adds c =
    let variables = c.in_ok-list_variables.ensures in
    let properties = c.in_ok-list_properties.ensures in
    fresh_listed c.args.self.now c.args.difference.now c.list_properties.new.slots.items
    (both_listed (has_slot c.args.self.now) c.list_properties.new.slots.items
    (λ b is. properties.keeps (Variable b) (variables.keeps (Variable b) (c.in_ok-add_properties.ensures.keeps (Variable b) (c.in_ok-add_variables.ensures.adds b is))))
    (λ k is. properties.keeps (Property k) (variables.keeps (Property k) (c.in_ok-add_properties.ensures.adds k is))))
    (λ s p among says. properties.keeps s (variables.adds s p among says)) properties.adds

pub returns-clause-keeps : goal.returns-clause-keeps
returns-clause-keeps c = λ s is. c.in_ok-list_properties.ensures.keeps s (c.in_ok-list_variables.ensures.keeps s (c.in_ok-add_properties.ensures.keeps s (c.in_ok-add_variables.ensures.keeps s is)))
