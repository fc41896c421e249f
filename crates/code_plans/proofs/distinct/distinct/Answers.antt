use Rattle.std.proofs.Common.{take, arith}
use Rattle.code_changes.specs.View.{changes_view}
use Rattle.code_plans.proofs.Meeting.{meets_none, meets_more, meets_all}
use Rattle.code_plans.proofs.distinct.distinct.Goals as goal

pub loop-i-init : goal.loop-i-init
loop-i-init c = meets_none c.new-met.result c.new-list.result c.args.changes.now c.new-met.ensures c.new-list.ensures

pub loop-i-preserved : goal.loop-i-preserved
loop-i-preserved c =
    meets_more c.add_new.new.met c.add_new.new.list c.args.changes.now c.loop-i.i c.index-changes-i.result (omega arith) c.index-changes-i.is (c.in_ok-add_new.ensures (changes_view (take c.loop-i.i c.args.changes.now)) c.loop-i.invariant)

pub returns : goal.returns
returns c = meets_all c.loop-i.met c.loop-i.list c.args.changes.now c.loop-i.i (omega arith) c.loop-i.invariant
