use Rattle.std.proofs.Common.{◌≡◌, map, take}
use Rattle.std.specs.List.{filter_map}
use Rattle.typing.specs.Objects.{object_of}
use Rattle.literal_reads.specs.View.{candidate_view, levels_seen}
use Rattle.literal_reads.proofs.choosing.objects.Given as goal

abbrev pub invariant-loop-i : goal.invariant-loop-i
invariant-loop-i l = map candidate_view l.all ≡ filter_map object_of (levels_seen (take l.i l.members))
