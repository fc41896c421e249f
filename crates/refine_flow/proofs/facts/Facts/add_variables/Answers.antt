use Rattle.std.proofs.Common.{ap, ◌∙◌}
use Rattle.std.specs.Option.{is_some}
use Rattle.fact_trail.specs.Rows.{class_facts_of}
use Rattle.fact_trail.proofs.Classes.{by_class}
use Rattle.flow_facts.specs.Known.{variable_place}
use Rattle.refine_flow.specs.Standing.{shown}
use Rattle.refine_flow.proofs.Listing.{adds_then}
use Rattle.refine_flow.proofs.facts.Facts.add_variables.Goals as goal

pub returns-clause-adds : goal.returns-clause-adds
returns-clause-adds c =
    adds_then (shown c.args.self.now) c.args.rows.now.items c.add_class.new.rows.items c.add_class-2.new.rows.items c.in_ok-add_class.ensures.adds c.in_ok-add_class-2.ensures.adds

pub returns-clause-listed : goal.returns-clause-listed
returns-clause-listed c = λ b there.
    by_class is_some c.args.self.now.trail.variables b
    (λ is. c.in_ok-add_class-2.ensures.adds.1 (variable_place b) (c.in_ok-add_class.ensures.listed b (ap (λ v. is_some (class_facts_of v b)) (c.constants.ensures ∙ ap (λ v. v.constants) c.variables-variables.ensures) ∙ is) there))
    (λ is. c.in_ok-add_class-2.ensures.listed b (ap (λ v. is_some (class_facts_of v b)) (c.changing.ensures ∙ ap (λ v. v.changing) c.variables-variables.ensures) ∙ is) there) there
