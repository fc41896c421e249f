use Rattle.std.proofs.Common.{take, arith}
use Rattle.refine_flow.specs.Standing.{shown}
use Rattle.refine_flow.proofs.Joints.{joins_none, row_more, rows_all, row_true}
use Rattle.refine_flow.proofs.facts.Facts.plan.Goals as goal

pub loop-i-init : goal.loop-i-init
loop-i-init c = joins_none c.args.self.now.names (shown c.args.others.now) (shown c.args.self.now) c.new-plan.result.items c.new-plan.ensures.items

pub plan_row-requires : goal.plan_row-requires
plan_row-requires c = row_true (shown c.args.self.now) c.args.rows.now c.loop-i.i c.index-rows-i.result c.requires c.loop-i-test.true c.index-rows-i.is

pub loop-i-preserved : goal.loop-i-preserved
loop-i-preserved c =
    row_more c.args.self.now.names (shown c.args.others.now) (shown c.args.self.now) c.args.rows.now c.loop-i.i c.index-rows-i.result c.plan_row.new.plan.items c.loop-i-test.true c.index-rows-i.is
    (c.in_ok-plan_row.ensures (take c.loop-i.i c.args.rows.now) c.loop-i.invariant)

pub returns : goal.returns
returns c = rows_all c.args.self.now.names (shown c.args.others.now) (shown c.args.self.now) c.args.rows.now c.loop-i.i c.loop-i.plan.items (omega (arith, c.loop-i-test.false)) c.loop-i.invariant
