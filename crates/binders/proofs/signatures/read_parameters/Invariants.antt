use Rattle.std.proofs.Common.{◌≡◌, take}
use Rattle.check_world.specs.View.{world_view, notes_view}
use Rattle.code_tree.specs.Flat.{parameters_view}
use Rattle.typing.specs.Functions.{parameters_read}
use Rattle.binders.proofs.signatures.read_parameters.Given as goal

abbrev pub invariant-loop-i : goal.invariant-loop-i
invariant-loop-i l = notes_view l.notes ≡ parameters_read (world_view l.world) (parameters_view (take l.i l.parameters)) (notes_view l.fn.notes)
