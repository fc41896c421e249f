use Rattle.std.proofs.Common.{◌≡◌}
use Rattle.std.specs.List.{flat_map}
use Rattle.job_crew.specs.Tying.{kept_of}
use Rattle.job_crew.proofs.run.all_kept.Given as goal

-- of the places that it has gone over
abbrev pub invariant-loop-seat : goal.invariant-loop-seat
invariant-loop-seat g l = l.all.items ≡ flat_map kept_of l.yielded
