use Rattle.std.proofs.Common.{◌==◌, refl}
use Rattle.std.specs.List.{list_any}
use Rattle.refine_flow.specs.Standing.{known}
use Rattle.refine_flow.proofs.Assigning.{function_entered}
use Rattle.refine_flow.proofs.MarkLemmas.{keeps_twice}
use Rattle.refine_flow.proofs.Dropping.{keeps_same}
use Rattle.refine_flow.proofs.facts.Facts.enter_function.Goals as goal

pub returns-clause-facts : goal.returns-clause-facts
returns-clause-facts c =
    function_entered (λ b. list_any (λ x. x == b) c.args.constants.now) c.args.self.now c.forget_properties.new.self c.keep_variables.new.self (known c.settle.new.self) c.forget_properties.ensures c.keep_variables.ensures c.settle.ensures.facts

pub returns-clause-marks : goal.returns-clause-marks
returns-clause-marks c =
    keeps_twice c.args.self.now c.keep_variables.new.self c.settle.new.self (keeps_twice c.args.self.now c.forget_properties.new.self c.keep_variables.new.self c.forget_properties.ensures.marks c.keep_variables.ensures.marks)
    (keeps_twice c.keep_variables.new.self _ c.settle.new.self (keeps_same c.keep_variables.new.self _ refl refl refl) c.settle.ensures.marks)
