use Rattle.std.proofs.Common.{◌≡◌, List, take}
use Rattle.check_world.specs.View.{world_view}
use Rattle.code_tree.specs.View.{statements_view}
use Rattle.scopes.specs.View.{IsHeight}
use Rattle.typing.specs.Changes.{Change}
use Rattle.typing.specs.Functions.{bind_stmts}
use Rattle.binders.specs.View.{bound_since, Binds, TellsInner}
use Rattle.binders.proofs.names.bind_statements.Given as goal

abbrev pub invariant-loop-i : goal.invariant-loop-i
invariant-loop-i l = record {
  height : IsHeight l.since l.scope;
  bound : (changes : List Change) → TellsInner l.set_inside changes → bound_since l.since l.scope l.notes ≡ bind_stmts (world_view l.world) l.fn.scope.depth changes (statements_view (take l.i l.statements)) (bound_since l.since l.fn.scope l.fn.notes);
  binds : Binds l.since l.fn.scope l.scope;
}
