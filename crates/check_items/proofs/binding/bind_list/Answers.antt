use Rattle.std.proofs.Common.{arith}
use Rattle.check_world.specs.View.{world_view}
use Rattle.binders.specs.View.{bound_since}
use Rattle.binders.proofs.Bindings.{binds_twice, still_height}
use Rattle.check_items.proofs.BoundInOrder.{listed_bound_next, listed_bound_all}
use Rattle.check_items.proofs.binding.bind_list.Goals as goal

pub loop-i-preserved : goal.loop-i-preserved
loop-i-preserved c = record {
  height = still_height c.args.around.now.since c.loop-i.scope c.bind_listed.new.scope c.loop-i.invariant.height c.in_ok-bind_listed.ensures.binds;
  bound = λ p says.
      listed_bound_next (world_view c.args.around.now.world.now) p c.args.from.0 c.args.from.1.now c.as_slice-names.result.now c.loop-i.i c.index-names-i.result (bound_since c.args.around.now.since c.args.scope.now c.args.notes.now)
      (bound_since c.args.around.now.since c.loop-i.scope c.loop-i.notes) (bound_since c.args.around.now.since c.bind_listed.new.scope c.bind_listed.new.notes) (omega arith) c.index-names-i.is
      (c.in_ok-bind_listed.ensures.bound p says) (c.loop-i.invariant.bound p says);
  binds = binds_twice c.args.around.now.since c.args.scope.now c.loop-i.scope c.bind_listed.new.scope c.loop-i.invariant.binds c.in_ok-bind_listed.ensures.binds;
}

pub returns-clause-bound : goal.returns-clause-bound
returns-clause-bound c = λ p says.
    listed_bound_all (world_view c.args.around.now.world.now) p c.args.from.0 c.args.from.1.now c.as_slice-names.result.now c.args.list.now.names c.loop-i.i (bound_since c.args.around.now.since c.args.scope.now c.args.notes.now)
    (bound_since c.args.around.now.since c.loop-i.scope c.loop-i.notes) (omega arith) c.as_slice-names.ensures (c.loop-i.invariant.bound p says)
