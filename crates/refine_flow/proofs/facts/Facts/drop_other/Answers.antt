use Rattle.std.proofs.Common.{◌==◌, not, sym, ap, ◌∙◌}
use Rattle.std.specs.List.{list_any}
use Rattle.fact_trail.specs.declared.slot.Slot.TheVariants.{Variable}
use Rattle.fact_trail.specs.Slots.{is_slot}
use Rattle.refine_flow.proofs.Losing.{dropped_if}
use Rattle.refine_flow.proofs.facts.Facts.drop_other.Goals as goal

pub invariant_of-self : goal.invariant_of-self
invariant_of-self c = record { tidy = λ s beyond. c.remove.ensures.drops.fresh s (c.args.self.now.tidy s beyond) }

pub returns-clause-trail : goal.returns-clause-trail
returns-clause-trail c =
    dropped_if (not (list_any (λ x. x == c.args.binding) c.args.kept.now.numbers.now)) (is_slot (Variable c.args.binding)) c.args.self.now.trail c.remove.new.self (ap not (sym c.has.ensures ∙ c.if-has.false)) c.remove.ensures.drops
