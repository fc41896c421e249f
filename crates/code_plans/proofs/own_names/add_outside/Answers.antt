use Rattle.std.proofs.Common.{arith}
use Rattle.code_plans.proofs.Owning.{outside_none, outside_more, outside_all}
use Rattle.code_plans.proofs.own_names.add_outside.Goals as goal

pub loop-i-init : goal.loop-i-init
loop-i-init c = outside_none c.args.own.now c.args.changes.now c.args.out.now

pub loop-i-preserved : goal.loop-i-preserved
loop-i-preserved c =
    outside_more c.args.own.now c.args.changes.now c.loop-i.i c.index-changes-i.result c.args.out.now c.loop-i.out c.add_if_outside.new.out (omega arith) c.index-changes-i.is c.loop-i.invariant c.in_ok-add_if_outside.ensures

pub returns : goal.returns
returns c = outside_all c.args.own.now c.args.changes.now c.loop-i.i c.args.out.now c.loop-i.out (omega arith) c.loop-i.invariant
