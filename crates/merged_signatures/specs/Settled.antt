-- When a job tells what the whole program does.
use Rattle.std.specs.Prelude.{◌≡◌, ◌⊎◌, map, Some, IsSome}
use Rattle.std.specs.List.{AllByRecursion}
use Rattle.check_values.specs.Rows.{Bytes, row_at}
use Rattle.merged_signatures.specs.Chains.{Known, View, found}
use Rattle.merged_signatures.specs.Merged.{merged, merged_known}
use Rattle.merged_signatures.specs.Job.{Job, members_view, job_signatures}
use Rattle.merged_signatures.specs.Repeats.{IsSmall}

-- The members are modules of the program, what stands outside are merged signatures of it, and what a member's specifiers find is
-- a member or stands outside. So it is with a component of the program, where all that it leads to is merged already.
pub record IsSettled (v : View) (job : Job) : Type 0 where
  pub members : AllByRecursion (λ row. v row.0 ≡ Some row.1) job.members
  pub outside : AllByRecursion (λ row. merged v row.0 ≡ Some row.1) job.outside
  pub closed : (path other spec : Bytes) (m : Known) → members_view job path ≡ Some m → found m.deps spec ≡ Some other → IsSome (members_view job other) ⊎ IsSome (row_at job.outside other)

-- the job's signatures are those of the whole program
abbrev pub AJobTellsTheProgram : Type 0
AJobTellsTheProgram = (v : View) (job : Job) → IsSmall v → IsSettled v job → job_signatures job ≡ map (λ row. merged_known v row.0 row.1) job.members
