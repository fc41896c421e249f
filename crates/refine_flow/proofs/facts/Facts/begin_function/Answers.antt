use Rattle.std.proofs.Common.{◌&&◌, refl, ap, ◌∙◌}
use Rattle.flow_facts.specs.Known.{is_constant_number, entered_function}
use Rattle.refine_flow.proofs.Assigning.{function_entered}
use Rattle.refine_flow.proofs.MarkLemmas.{keeps_twice}
use Rattle.refine_flow.proofs.Dropping.{keeps_same}
use Rattle.refine_flow.proofs.Turning.{entered}
use Rattle.refine_flow.proofs.facts.Facts.begin_function.Goals as goal

pub returns-clause-facts : goal.returns-clause-facts
returns-clause-facts c =
    function_entered (λ b. c.args.keeps && is_constant_number b) c.mark.new.self c.forget_properties.new.self c.keep_constants.new.self _ c.forget_properties.ensures c.keep_constants.ensures refl
    ∙ ap (entered_function (λ b. c.args.keeps && is_constant_number b)) c.in_ok-mark.ensures.facts

pub returns-clause-mark : goal.returns-clause-mark
returns-clause-mark c =
    entered c.in_ok-mark.mark c.args.self.now c.mark.new.self _ c.in_ok-mark.ensures.mark c.in_ok-mark.ensures.facts
    (keeps_twice c.mark.new.self c.keep_constants.new.self _ (keeps_twice c.mark.new.self c.forget_properties.new.self c.keep_constants.new.self c.forget_properties.ensures.marks c.keep_constants.ensures.marks) (keeps_same c.keep_constants.new.self _ refl refl refl))
