use Rattle.std.proofs.Common.{arith}
use Rattle.code_changes.specs.View.{changes_view}
use Rattle.check_items.proofs.BoundInOrder.{changes_none, changes_next}
use Rattle.check_items.proofs.binding.set_inside.Goals as goal

pub loop-i-init : goal.loop-i-init
loop-i-init c = changes_none c.new-changes.result c.new-changes.ensures

pub loop-i-preserved : goal.loop-i-preserved
loop-i-preserved c =
    changes_next c.args.items.now c.loop-i.i c.index-items-i.result (changes_view c.loop-i.changes) (changes_view c.changes_of_item.new.out) (omega arith) c.index-items-i.is c.in_ok-changes_of_item.ensures c.loop-i.invariant
