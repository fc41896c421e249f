use Rattle.fact_trail.specs.declared.slot.Slot.TheVariants.{Variable}
use Rattle.fact_arms.specs.Differences.{is_said}
use Rattle.fact_arms.proofs.Listing.{both_listed}
use Rattle.fact_arms.proofs.slots.add_said.Goals as goal

pub returns-clause-adds : goal.returns-clause-adds
returns-clause-adds c =
    let variables = c.in_ok-add_said_variables.ensures in let properties = c.in_ok-add_said_properties.ensures in
    both_listed (is_said c.args.difference.now) c.add_said_properties.new.slots.items (λ b is. properties.keeps (Variable b) (variables.adds b is)) properties.adds

pub returns-clause-keeps : goal.returns-clause-keeps
returns-clause-keeps c = λ s is. c.in_ok-add_said_properties.ensures.keeps s (c.in_ok-add_said_variables.ensures.keeps s is)
