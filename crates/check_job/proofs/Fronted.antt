-- The errors of a job whose parse tells the faults of its tree's signature.
use Rattle.std.proofs.Common.{List, ap, ◌∙◌}
use Rattle.check_values.specs.Rows.{row_at}
use Rattle.check_values.specs.declared.faults.Fault.{Fault}
use Rattle.errors_by_reach.specs.module_errors.specs.Errors.{errors_beside}
use Rattle.errors_by_reach.specs.Law.{Source, whole, broken, HasErrors}
use Rattle.check_job.specs.declared.job.CheckJob.{CheckJob}
use Rattle.check_job.specs.Jobs.{source_of, HasErrorsBeside, AreErrorsOf, HasFaults, IsFronted}

pub fronted_errors : (job : CheckJob) (errors : List Fault) → IsFronted job → AreErrorsOf job errors → HasErrors job.path job.deps (source_of job) (row_at job.sigs.rows) errors
fronted_errors job errors = go (source_of job)
  where
    go : (source : Source) → HasFaults job source → HasErrorsBeside job.parse.faults job.path job.deps source (row_at job.sigs.rows) errors → HasErrors job.path job.deps source (row_at job.sigs.rows) errors
    go (whole m spans) told (p, seen, is) = (p, seen, is ∙ ap (λ (first : List Fault). errors_beside first p m spans) told)
    go (broken code place) told has = has
