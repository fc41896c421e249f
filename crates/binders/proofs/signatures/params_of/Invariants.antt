use Rattle.std.proofs.Common.{◌≡◌, take}
use Rattle.check_world.specs.View.{world_view}
use Rattle.code_tree.specs.Flat.{parameters_view}
use Rattle.typing.specs.Functions.{params_of}
use Rattle.binders.proofs.signatures.params_of.Given as goal

abbrev pub invariant-loop-i : goal.invariant-loop-i
invariant-loop-i l = l.params ≡ params_of (world_view l.world) (parameters_view (take l.i l.parameters))
