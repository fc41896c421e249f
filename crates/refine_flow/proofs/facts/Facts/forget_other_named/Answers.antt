use Rattle.std.proofs.Common.{refl, sym, not, ◌&&◌, ◌∙◌}
use Rattle.fact_trail.specs.Slots as slots
use Rattle.flow_facts.specs.Known.{is_named, is_place, property_place}
use Rattle.refine_flow.proofs.Setting.{others_alike, unnamed_other}
use Rattle.refine_flow.proofs.Dropping.{dropped_slots, nothing_lost}
use Rattle.refine_flow.proofs.facts.Facts.forget_other_named.Goals as goal

pub returns-in-Some : goal.returns-in-Some
returns-in-Some c =
    dropped_slots c.args.self.now _ (slots.is_other_named (record { name = c.in-Some.name; binding = c.args.binding })) (λ q. is_named c.args.name.now q && not (is_place (property_place c.args.binding c.args.name.now) q)) refl refl refl
    (others_alike c.args.self.now.names c.in-Some.name c.args.name.now c.args.binding (sym c.number.ensures ∙ c.in-Some.is)) c.drop_other_named.ensures

pub returns-in_default : goal.returns-in_default
returns-in_default c =
    nothing_lost c.args.self.now (λ q. is_named c.args.name.now q && not (is_place (property_place c.args.binding c.args.name.now) q)) (unnamed_other c.args.self.now.names c.args.name.now c.args.binding (sym c.number.ensures ∙ c.in_default.is))

pub invariant_of-self : goal.invariant_of-self
invariant_of-self c = record { tidy = λ s beyond. c.drop_other_named.ensures.fresh s (c.args.self.now.tidy s beyond) }
