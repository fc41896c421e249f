use Rattle.std.proofs.Common.{arith, subst}
use Rattle.flow_facts.specs.Known.{without, is_named}
use Rattle.refine_flow.specs.Standing.{Changes}
use Rattle.refine_flow.proofs.Dropping.{none_dropped, dropped_more, dropped_whole}
use Rattle.refine_flow.proofs.facts.Facts.forget_names.Goals as goal

pub loop-i-init : goal.loop-i-init
loop-i-init c = none_dropped is_named c.args.names.now c.args.self.now

pub loop-i-preserved : goal.loop-i-preserved
loop-i-preserved c =
    dropped_more is_named c.args.names.now c.loop-i.i c.index-names-i.result c.args.self.now c.loop-i.self c.forget_name.new.self c.loop-i-test.true c.loop-i.invariant
    (subst (λ x. Changes (without (is_named x)) c.loop-i.self c.forget_name.new.self) c.index-names-i.is c.forget_name.ensures)

pub returns : goal.returns
returns c = dropped_whole is_named c.args.names.now c.loop-i.i c.args.self.now c.loop-i.self (omega arith) c.loop-i.invariant
