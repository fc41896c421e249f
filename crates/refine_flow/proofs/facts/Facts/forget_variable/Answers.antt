use Rattle.std.proofs.Common.{refl}
use Rattle.fact_trail.specs.declared.slot.Slot.TheVariants.{Variable}
use Rattle.fact_trail.specs.Slots as slots
use Rattle.flow_facts.specs.Known.{is_of}
use Rattle.refine_flow.proofs.Gone.{is_of_slot, of_alike, of_both}
use Rattle.refine_flow.proofs.Dropping.{dropped_slots, drops_both}
use Rattle.refine_flow.proofs.facts.Facts.forget_variable.Goals as goal

pub returns : goal.returns
returns c =
    dropped_slots c.args.self.now _ (is_of_slot c.args.binding) (is_of c.args.binding) refl refl refl (of_alike c.args.self.now.names c.args.binding)
    (drops_both (slots.is_slot (Variable c.args.binding)) (slots.is_of c.args.binding) (is_of_slot c.args.binding) c.args.self.now.trail c.remove.new.self c.drop_of.new.self (of_both c.args.binding) c.remove.ensures.drops c.drop_of.ensures)

pub invariant_of-self : goal.invariant_of-self
invariant_of-self c = record { tidy = λ s beyond. c.drop_of.ensures.fresh s (c.remove.ensures.drops.fresh s (c.args.self.now.tidy s beyond)) }
