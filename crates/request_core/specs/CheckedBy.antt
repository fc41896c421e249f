-- What a module is checked by, where that is read from a state of the heap.
use Rattle.std.specs.Prelude.{◌≡◌, List, Some}
use Rattle.check_values.specs.Rows.{Bytes, row_at}
use Rattle.check_values.specs.Roots.{paths_of_rows}
use Rattle.check_values.specs.declared.faults.Fault.{Fault}
use Rattle.check_values.specs.declared.root.RootRow.{RootRow}
use Rattle.place_analyst.specs.check_job.specs.Jobs.{AreErrorsOf}
use Rattle.place_analyst.specs.check_job.specs.declared.job.CheckJob.{CheckJob}
use Rattle.errors_by_reach.specs.Law.{Agree}
use Rattle.heap_answers.specs.payloads.specs.declared.payload.Payload.{Payload}
use Rattle.heap_answers.specs.program_check.specs.Full.{deps_in}
use Rattle.place_analyst.specs.source_front.specs.Front.{IsParse}
use Rattle.heap_answers.specs.States.{sigs_by}
use Rattle.request_core.specs.States.{parse_at, deps_at}

-- This is the job of a module as it was committed.
pub record IsJobOf (state : List Payload) (modules : List RootRow) (m : RootRow) (job : CheckJob) : Type 0 where
  pub path : job.path ≡ m.path
  pub parse : parse_at state m.row ≡ Some job.parse
  pub deps : deps_at state m.row ≡ Some job.deps
  pub signed : Agree (sigs_by state modules) job.deps (row_at job.sigs.rows)

-- This is the job of the module at a path, were this its text.
pub record IsJobInstead (state : List Payload) (modules : List RootRow) (path text : Bytes) (job : CheckJob) : Type 0 where
  pub at_path : job.path ≡ path
  pub parse : IsParse text job.parse
  pub deps : job.deps ≡ deps_in (paths_of_rows modules) path job.parse
  pub signed : Agree (sigs_by state modules) job.deps (row_at job.sigs.rows)

-- These are the errors of such a job.
abbrev pub AreFoundInstead : List Payload → List RootRow → Bytes → Bytes → List Fault → Type 0
AreFoundInstead state modules path text faults = (job : CheckJob) × IsJobInstead state modules path text job × AreErrorsOf job faults
