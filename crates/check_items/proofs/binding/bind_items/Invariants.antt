use Rattle.std.proofs.Common.{◌≡◌, List, take}
use Rattle.check_world.specs.View.{world_view}
use Rattle.js_tree.specs.View.{items_view}
use Rattle.scopes.specs.View.{IsHeight}
use Rattle.typing.specs.Changes.{Change}
use Rattle.module_errors.specs.Program.{Program}
use Rattle.module_errors.specs.TopNames.{bind_items}
use Rattle.binders.specs.View.{bound_since, Binds, TellsInner}
use Rattle.check_items.specs.View.{Says}
use Rattle.check_items.proofs.binding.bind_items.Given as goal

abbrev pub invariant-loop-i : goal.invariant-loop-i
invariant-loop-i l = record {
  height : IsHeight l.around.since l.scope;
  bound : (p : Program) → Says l.around.imports.now p → (changes : List Change) → TellsInner l.set_inside changes →
      bound_since l.around.since l.scope l.notes ≡ bind_items (world_view l.around.world.now) p changes (items_view (take l.i l.items)) (bound_since l.around.since l.fn.scope l.fn.notes);
  binds : Binds l.around.since l.fn.scope l.scope;
}
