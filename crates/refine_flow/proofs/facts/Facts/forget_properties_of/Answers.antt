use Rattle.std.proofs.Common.{refl, not, ◌&&◌}
use Rattle.fact_trail.specs.Slots as slots
use Rattle.flow_facts.specs.Known.{is_of, is_place, variable_place}
use Rattle.refine_flow.proofs.Setting.{others_of_alike}
use Rattle.refine_flow.proofs.Dropping.{dropped_slots}
use Rattle.refine_flow.proofs.facts.Facts.forget_properties_of.Goals as goal

pub returns : goal.returns
returns c =
    dropped_slots c.args.self.now _ (slots.is_of c.args.binding) (λ q. is_of c.args.binding q && not (is_place (variable_place c.args.binding) q)) refl refl refl (others_of_alike c.args.self.now.names c.args.binding) c.drop_of.ensures

pub invariant_of-self : goal.invariant_of-self
invariant_of-self c = record { tidy = λ s beyond. c.drop_of.ensures.fresh s (c.args.self.now.tidy s beyond) }
