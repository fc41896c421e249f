use Rattle.std.proofs.Common.{◌≡◌, take}
use Rattle.check_world.specs.View.{world_view, notes_view}
use Rattle.js_tree.specs.View.{exporteds_view}
use Rattle.local_signatures.specs.Scope.{Scope}
use Rattle.module_errors.specs.Items.{exporteds_read}
use Rattle.check_items.specs.View.{NamesTypes}
use Rattle.check_items.proofs.imports.read_own_exports.Given as goal

abbrev pub invariant-loop-i : goal.invariant-loop-i
invariant-loop-i l = (top : Scope) → NamesTypes (world_view l.world) top → notes_view l.notes ≡ exporteds_read (world_view l.world) top l.is_type (exporteds_view (take l.i l.names)) (notes_view l.fn.notes)
