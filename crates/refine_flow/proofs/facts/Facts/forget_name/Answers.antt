use Rattle.std.proofs.Common.{refl, sym, ◌∙◌}
use Rattle.fact_trail.specs.Slots as slots
use Rattle.flow_facts.specs.Known.{is_named}
use Rattle.refine_flow.proofs.Gone.{named_alike, unnamed}
use Rattle.refine_flow.proofs.Dropping.{dropped_slots, nothing_lost}
use Rattle.refine_flow.proofs.facts.Facts.forget_name.Goals as goal

pub returns-in-Some : goal.returns-in-Some
returns-in-Some c =
    dropped_slots c.args.self.now _ (slots.is_named c.in-Some.name) (is_named c.args.name.now) refl refl refl
    (named_alike c.args.self.now.names c.in-Some.name c.args.name.now (sym c.number.ensures ∙ c.in-Some.is)) c.drop_named.ensures

pub returns-in_default : goal.returns-in_default
returns-in_default c = nothing_lost c.args.self.now (is_named c.args.name.now) (unnamed c.args.self.now.names c.args.name.now (sym c.number.ensures ∙ c.in_default.is))

pub invariant_of-self : goal.invariant_of-self
invariant_of-self c = record { tidy = λ s beyond. c.drop_named.ensures.fresh s (c.args.self.now.tidy s beyond) }
