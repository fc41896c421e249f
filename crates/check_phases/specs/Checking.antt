-- What a module is checked by.
use Rattle.std.specs.Prelude.{◌≡◌, ℕ, ◌+◌, min, slice_get, Some, option_to_list}
use Rattle.check_values.specs.Rows.{Rows, row_at}
use Rattle.check_values.specs.declared.signatures.Sig.{Sig}
use Rattle.errors_by_reach.specs.Law.{Agree}
use Rattle.analyst.specs.check_job.specs.declared.job.CheckJob.{CheckJob}
use Rattle.check_phases.specs.Sourced.{program_in}
use Rattle.check_phases.specs.declared.merging.Sources.{Sources}

-- the row of a number, if it has one
abbrev pub picked : Rows Sig → ℕ → Rows Sig
picked rows n = option_to_list (slice_get rows n)

-- this is the job of the module of a number, by these signatures of all modules
pub record IsJobOf (s : Sources) (rows : Rows Sig) (x : ℕ) (job : CheckJob) : Type 0 where
  pub at_module : slice_get (program_in s) x ≡ Some (job.path, job.text)
  pub parse : slice_get s.parses.items x ≡ Some job.parse
  pub deps : slice_get s.lists.items x ≡ Some job.deps
  pub signed : Agree (row_at rows) job.deps (row_at job.sigs.rows)

-- the number of modules that are checked after one more batch, of so many
abbrev pub batch_after : ℕ → ℕ → ℕ
batch_after checked modules = min modules (checked + 64)
