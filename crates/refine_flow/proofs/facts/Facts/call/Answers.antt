use Rattle.flow_facts.specs.Known.{without_properties}
use Rattle.refine_flow.proofs.Dropping.{settled_facts, settled_marks}
use Rattle.refine_flow.proofs.facts.Facts.call.Goals as goal

pub returns-clause-facts : goal.returns-clause-facts
returns-clause-facts c = settled_facts without_properties c.args.self.now c.forget_properties_if.new.self c.settle.new.self c.forget_properties_if.ensures c.settle.ensures.facts

pub returns-clause-marks : goal.returns-clause-marks
returns-clause-marks c = settled_marks without_properties c.args.self.now c.forget_properties_if.new.self c.settle.new.self c.forget_properties_if.ensures c.settle.ensures.marks
