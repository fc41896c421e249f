use Rattle.std.proofs.Common.{◌≡◌}
use Rattle.typing.specs.States.{add_faults}
use Rattle.check_world.specs.View.{notes_view}
use Rattle.check_world.proofs.notes.Notes.add_faults.Given as goal

abbrev pub invariant-loop-fault : goal.invariant-loop-fault
invariant-loop-fault l = notes_view l.self ≡ add_faults l.yielded (notes_view l.initial.self)
