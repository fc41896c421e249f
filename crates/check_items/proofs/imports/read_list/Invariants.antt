use Rattle.std.proofs.Common.{◌≡◌, take}
use Rattle.check_world.specs.View.{world_view, notes_view}
use Rattle.js_tree.specs.View.{importeds_view}
use Rattle.module_errors.specs.Program.{Program}
use Rattle.module_errors.specs.Items.{importeds_read}
use Rattle.check_items.specs.View.{Says}
use Rattle.check_items.proofs.imports.read_list.Given as goal

abbrev pub invariant-loop-i : goal.invariant-loop-i
invariant-loop-i l = (p : Program) → Says l.imports p → notes_view l.notes ≡ importeds_read (world_view l.world) p l.from.0 l.from.1.now (importeds_view (take l.i l.names)) (notes_view l.fn.notes)
