use Rattle.flow_facts.specs.Known.{entered_loop}
use Rattle.refine_flow.specs.Standing.{Changes}
use Rattle.refine_flow.proofs.Assigning.{loop_entered}
use Rattle.refine_flow.proofs.Dropping.{settled_facts, settled_marks}
use Rattle.refine_flow.proofs.facts.Facts.enter_loop.Goals as goal

entered : (c : goal.After-settle) → Changes (entered_loop c.args.killed.now) c.args.self.now c.forget_properties_if.new.self
entered c =
    loop_entered c.args.killed.now c.as_slice.result.now c.as_slice-2.result.now c.args.self.now c.forget_variables.new.self c.forget_names.new.self c.forget_properties_if.new.self c.as_slice.ensures c.as_slice-2.ensures
    c.forget_variables.ensures c.forget_names.ensures c.forget_properties_if.ensures

pub returns-clause-facts : goal.returns-clause-facts
returns-clause-facts c = settled_facts (entered_loop c.args.killed.now) c.args.self.now c.forget_properties_if.new.self c.settle.new.self (entered c) c.settle.ensures.facts

pub returns-clause-marks : goal.returns-clause-marks
returns-clause-marks c = settled_marks (entered_loop c.args.killed.now) c.args.self.now c.forget_properties_if.new.self c.settle.new.self (entered c) c.settle.ensures.marks
