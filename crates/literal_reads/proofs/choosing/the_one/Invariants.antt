use Rattle.std.proofs.Common.{map, filter, length}
use Rattle.check_world.specs.View.{world_view}
use Rattle.typing.specs.Objects.{is_candidate}
use Rattle.literal_reads.specs.View.{entries_view, candidate_view}
use Rattle.literal_reads.proofs.ObjectsAmong.{IsLeft}
use Rattle.literal_reads.proofs.choosing.the_one.Given as goal

abbrev pub invariant-loop-candidate : goal.invariant-loop-candidate
invariant-loop-candidate l = IsLeft (world_view l.world) (entries_view l.entries) l.rest l.found (filter (is_candidate (world_view l.world) (entries_view l.entries)) (map candidate_view l.initial.rest))

-- how many candidates are left
abbrev pub decreases-loop-candidate : goal.decreases-loop-candidate
decreases-loop-candidate l = length l.rest
