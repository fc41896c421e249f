use Rattle.std.proofs.Common.{arith}
use Rattle.flow_facts.specs.Known.{is_of}
use Rattle.refine_flow.proofs.Dropping.{none_dropped, dropped_more, dropped_whole}
use Rattle.refine_flow.proofs.facts.Facts.forget_variables.Goals as goal

pub loop-i-init : goal.loop-i-init
loop-i-init c = none_dropped is_of c.args.bindings.now c.args.self.now

pub loop-i-preserved : goal.loop-i-preserved
loop-i-preserved c = dropped_more is_of c.args.bindings.now c.loop-i.i _ c.args.self.now c.loop-i.self _ c.loop-i-test.true c.loop-i.invariant c.forget_variable.ensures

pub returns : goal.returns
returns c = dropped_whole is_of c.args.bindings.now c.loop-i.i c.args.self.now c.loop-i.self (omega arith) c.loop-i.invariant
