use Rattle.std.proofs.Common.{◌≡◌, [], length, map, take, get_or}
use Rattle.job_ends.specs.Jobs.{job_view}
use Rattle.job_ends.specs.declared.job.MergeJob.{MergeJob}
use Rattle.recheck_merging.specs.Plans.{size_of}
use Rattle.recheck_merging.specs.Merging.{job_in}
use Rattle.recheck_merging.specs.Still.{lacking}
use Rattle.recheck_merging.proofs.merging.wave_jobs.Given as goal

-- the jobs so far
abbrev pub invariant-loop-i : goal.invariant-loop-i
invariant-loop-i l = record {
  jobs : map job_view l.jobs ≡ map (job_in l.edit.sources.now l.edit.plan.now l.slots) (lacking (take l.i (get_or l.edit.plan.now.waves l.wave [])) (take l.i l.olds));
  many : map (λ (job : MergeJob). length job.members) l.jobs ≡ map (size_of l.edit.plan.now) (lacking (take l.i (get_or l.edit.plan.now.waves l.wave [])) (take l.i l.olds));
}
