use Rattle.std.proofs.Common.{◌≡◌, take}
use Rattle.check_world.specs.View.{world_view, notes_view}
use Rattle.typing.specs.States.{add_faults}
use Rattle.typing.specs.Objects.{missing_props}
use Rattle.literal_reads.specs.View.{entries_view}
use Rattle.literal_reads.proofs.candidate.Candidate.ask_all.Given as goal

-- the properties before the place are asked for
abbrev pub invariant-loop-i : goal.invariant-loop-i
invariant-loop-i l =
    notes_view l.notes ≡ add_faults (missing_props (world_view l.world) l.first l.end (entries_view l.entries) (take l.i l.props)) (notes_view l.initial.notes)
