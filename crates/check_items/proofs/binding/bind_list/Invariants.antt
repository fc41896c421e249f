use Rattle.std.proofs.Common.{◌≡◌, take}
use Rattle.check_world.specs.View.{world_view}
use Rattle.js_tree.specs.View.{importeds_view}
use Rattle.scopes.specs.View.{IsHeight}
use Rattle.module_errors.specs.Program.{Program}
use Rattle.module_errors.specs.TopNames.{bind_importeds}
use Rattle.binders.specs.View.{bound_since, Binds}
use Rattle.check_items.specs.View.{Says}
use Rattle.check_items.proofs.binding.bind_list.Given as goal

abbrev pub invariant-loop-i : goal.invariant-loop-i
invariant-loop-i l = record {
  height : IsHeight l.around.since l.scope;
  bound : (p : Program) → Says l.around.imports.now p → bound_since l.around.since l.scope l.notes ≡ bind_importeds (world_view l.around.world.now) p l.from.0 l.from.1.now (importeds_view (take l.i l.names)) (bound_since l.around.since l.fn.scope l.fn.notes);
  binds : Binds l.around.since l.fn.scope l.scope;
}
