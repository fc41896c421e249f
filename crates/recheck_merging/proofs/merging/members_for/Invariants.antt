use Rattle.std.proofs.Common.{◌≡◌, length, map, take}
use Rattle.std.specs.List.{flat_map}
use Rattle.job_ends.specs.Jobs.{member_view}
use Rattle.check_phases.specs.Merging.{member_at}
use Rattle.recheck_merging.proofs.merging.members_for.Given as goal

-- the members so far
abbrev pub invariant-loop-i : goal.invariant-loop-i
invariant-loop-i l = record {
  members : map member_view l.members ≡ flat_map (member_at l.sources) (take l.i l.group);
  many : length l.members ≡ l.i;
}
