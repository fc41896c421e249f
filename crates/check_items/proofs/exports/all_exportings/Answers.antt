use Rattle.std.proofs.Common.{arith}
use Rattle.check_items.proofs.SecondExports.{items_none, items_next, items_all}
use Rattle.check_items.proofs.exports.all_exportings.Goals as goal

pub loop-i-init : goal.loop-i-init
loop-i-init c = items_none c.new-all.result.items c.new-all.ensures.items

pub loop-i-preserved : goal.loop-i-preserved
loop-i-preserved c = items_next c.args.items.now c.loop-i.i c.index-items-i.result c.loop-i.all.items c.add_item.new.out.items (omega arith) c.index-items-i.is c.in_ok-add_item.ensures c.loop-i.invariant

pub returns : goal.returns
returns c = items_all c.args.items.now c.loop-i.i c.loop-i.all.items (omega arith) c.loop-i.invariant
