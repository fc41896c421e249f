use Rattle.std.proofs.Common.{arith, ◌∙◌}
use Rattle.check_world.specs.View.{world_view}
use Rattle.js_tree.specs.View.{items_view}
use Rattle.module_errors.specs.TopNames.{changes_of_items}
use Rattle.binders.specs.View.{bound_since}
use Rattle.binders.proofs.Bindings.{binds_nothing, binds_twice, still_height}
use Rattle.check_items.proofs.BoundInOrder.{top_height, items_bound_none, items_bound_next, items_bound_all}
use Rattle.check_items.proofs.binding.bind_items.Goals as goal

pub loop-i-init : goal.loop-i-init
loop-i-init c = record {
  height = top_height c.height-since.result c.args.scope.now c.height-since.ensures.top;
  bound = λ p says changes tells. items_bound_none (world_view c.args.world.now) p changes (bound_since c.height-since.result c.args.scope.now c.args.notes.now);
  binds = binds_nothing c.height-since.result c.args.scope.now;
}

pub bind_item-requires-clause-height : goal.bind_item-requires-clause-height
bind_item-requires-clause-height c = c.loop-i.invariant.height

pub bind_item-requires-clause-depth : goal.bind_item-requires-clause-depth
bind_item-requires-clause-depth c = c.loop-i.invariant.binds.depth ∙ c.requires

pub loop-i-preserved : goal.loop-i-preserved
loop-i-preserved c = record {
  height = still_height c.height-since.result c.loop-i.scope c.bind_item.new.scope c.loop-i.invariant.height c.in_ok-bind_item.ensures.binds;
  bound = λ p says changes tells.
      items_bound_next (world_view c.args.world.now) p changes c.args.items.now c.loop-i.i c.index-items-i.result (bound_since c.height-since.result c.args.scope.now c.args.notes.now)
      (bound_since c.height-since.result c.loop-i.scope c.loop-i.notes) (bound_since c.height-since.result c.bind_item.new.scope c.bind_item.new.notes) (omega arith) c.index-items-i.is
      (c.in_ok-bind_item.ensures.bound p says changes tells) (c.loop-i.invariant.bound p says changes tells);
  binds = binds_twice c.height-since.result c.args.scope.now c.loop-i.scope c.bind_item.new.scope c.loop-i.invariant.binds c.in_ok-bind_item.ensures.binds;
}

pub returns-clause-bound : goal.returns-clause-bound
returns-clause-bound c = λ p says.
    items_bound_all (world_view c.args.world.now) p (changes_of_items (items_view c.args.items.now)) c.args.items.now c.loop-i.i c.height-since.result c.args.scope.now c.loop-i.scope c.args.notes.now c.loop-i.notes (omega arith)
    c.height-since.ensures.since c.loop-i.invariant.binds (c.loop-i.invariant.bound p says (changes_of_items (items_view c.args.items.now)) c.in_ok-set_inside.ensures)

pub returns-clause-heights : goal.returns-clause-heights
returns-clause-heights c = c.loop-i.invariant.binds.heights
