use Rattle.std.proofs.Common.{arith}
use Rattle.named_rows.specs.Seen.{seen}
use Rattle.check_items.specs.Meant.{meant_view}
use Rattle.check_items.proofs.TypeRows.{items_none, items_next, items_all}
use Rattle.check_items.proofs.naming.all_names.Goals as goal

pub loop-i-init : goal.loop-i-init
loop-i-init c = items_none c.new-rows.result.items c.new-rows.ensures.items

pub loop-i-preserved : goal.loop-i-preserved
loop-i-preserved c =
    items_next c.args.items.now c.loop-i.i c.index-items-i.result (seen meant_view c.loop-i.rows.items) (seen meant_view c.add_item.new.rows.items) (omega arith) c.index-items-i.is c.in_ok-add_item.ensures c.loop-i.invariant

pub returns : goal.returns
returns c = items_all c.args.items.now c.loop-i.i (seen meant_view c.loop-i.rows.items) (omega arith) c.loop-i.invariant
