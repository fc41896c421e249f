-- What the answer to a job of checking is.
use Rattle.check_values.specs.declared.faults.Errs.{Errs}
use Rattle.tree_crossing.specs.check_job.specs.Jobs.{AreErrorsOf}
use Rattle.tree_crossing.specs.check_job.specs.declared.job.CheckJob.{CheckJob}

-- these are the errors of the job's module
abbrev pub HasErrors : CheckJob → Errs → Type 0
HasErrors job errs = AreErrorsOf job errs.faults
