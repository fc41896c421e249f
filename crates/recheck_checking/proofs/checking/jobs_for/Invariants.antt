use Rattle.std.proofs.Common.{take}
use Rattle.std.specs.List.{AllZip}
use Rattle.recheck_merging.specs.check_phases.specs.Checking.{IsJobOf}
use Rattle.recheck_checking.specs.Checking.{rows_by}
use Rattle.recheck_checking.proofs.checking.jobs_for.Given as goal

-- the jobs so far
abbrev pub invariant-loop-i : goal.invariant-loop-i
invariant-loop-i l = AllZip (IsJobOf l.sources (rows_by l.sources l.signatures)) (take l.i l.numbers) l.jobs.items
