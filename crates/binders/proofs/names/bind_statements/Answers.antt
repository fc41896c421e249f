use Rattle.std.proofs.Common.{arith}
use Rattle.check_world.specs.View.{world_view}
use Rattle.binders.specs.View.{bound_since}
use Rattle.binders.proofs.InOrder.{statements_bound_next, statements_bound_all}
use Rattle.binders.proofs.Bindings.{binds_twice, still_height}
use Rattle.binders.proofs.names.bind_statements.Goals as goal

pub loop-i-preserved : goal.loop-i-preserved
loop-i-preserved c = record {
  height = still_height c.args.since c.loop-i.scope c.bind_statement.new.scope c.loop-i.invariant.height c.in_ok-bind_statement.ensures.binds;
  bound = λ changes tells.
      statements_bound_next (world_view c.args.world.now) c.args.scope.now.depth c.loop-i.scope.depth changes c.args.statements.now c.loop-i.i c.index-statements-i.result
      (bound_since c.args.since c.args.scope.now c.args.notes.now) (bound_since c.args.since c.loop-i.scope c.loop-i.notes)
      (bound_since c.args.since c.bind_statement.new.scope c.bind_statement.new.notes) (omega arith) c.index-statements-i.is c.loop-i.invariant.binds.depth
      (c.in_ok-bind_statement.ensures.bound changes tells) (c.loop-i.invariant.bound changes tells);
  binds = binds_twice c.args.since c.args.scope.now c.loop-i.scope c.bind_statement.new.scope c.loop-i.invariant.binds c.in_ok-bind_statement.ensures.binds;
}

pub returns-clause-bound : goal.returns-clause-bound
returns-clause-bound c = λ changes tells.
    statements_bound_all (world_view c.args.world.now) c.args.scope.now.depth changes c.args.statements.now c.loop-i.i (bound_since c.args.since c.args.scope.now c.args.notes.now)
    (bound_since c.args.since c.loop-i.scope c.loop-i.notes) (omega arith) (c.loop-i.invariant.bound changes tells)
