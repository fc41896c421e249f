use Rattle.flow_facts.specs.Known.{without, is_named}
use Rattle.refine_flow.proofs.Dropping.{settled_facts, settled_marks}
use Rattle.refine_flow.proofs.facts.Facts.forget_named.Goals as goal

pub returns-clause-facts : goal.returns-clause-facts
returns-clause-facts c = settled_facts (without (is_named c.args.name.now)) c.args.self.now c.forget_name.new.self c.settle.new.self c.forget_name.ensures c.settle.ensures.facts

pub returns-clause-marks : goal.returns-clause-marks
returns-clause-marks c = settled_marks (without (is_named c.args.name.now)) c.args.self.now c.forget_name.new.self c.settle.new.self c.forget_name.ensures c.settle.ensures.marks
