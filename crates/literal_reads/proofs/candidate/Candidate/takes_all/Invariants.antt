use Rattle.std.proofs.Common.{◌≡◌, drop}
use Rattle.std.specs.List.{list_all}
use Rattle.check_world.specs.View.{world_view}
use Rattle.typing.specs.Objects.{is_candidate}
use Rattle.literal_reads.specs.Accepting.{accepts}
use Rattle.literal_reads.specs.Keys.{rows_view}
use Rattle.literal_reads.specs.View.{entries_view, candidate_view}
use Rattle.literal_reads.proofs.candidate.Candidate.takes_all.Given as goal

-- all properties are accepted exactly where those that are left are
abbrev pub invariant-loop-i : goal.invariant-loop-i
invariant-loop-i l =
    is_candidate (world_view l.world) (entries_view l.entries) (candidate_view l.self)
    ≡ list_all (accepts (world_view l.world) (entries_view l.entries) (candidate_view l.self)) (rows_view (drop l.i l.rows))
