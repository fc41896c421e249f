-- A job needs no more than what it asks for.
use Rattle.std.specs.Prelude.{◌≡◌, true, Option}
use Rattle.std.specs.List.{list_any}
use Rattle.std.specs.Option.{option_map}
use Rattle.check_values.specs.Rows.{Bytes, Rows, row_at}
use Rattle.check_values.specs.declared.signatures.Export.{Export}
use Rattle.check_values.specs.declared.signatures.Sig.{Sig}
use Rattle.merged_signatures.specs.Repeats.{name_eq}
use Rattle.merged_signatures.specs.Job.{Job, told_by, job_signatures}
use Rattle.asked_exports.specs.Asked.{asked, asked_job}

-- what signatures tell of a name of a module, if one of them is the module's
abbrev pub told_at : Rows Sig → Bytes → Bytes → Option Export
told_at outside path name = option_map (λ s. told_by s name) (row_at outside path)

-- they tell the same of each name that the job asks for
abbrev pub TellTheSame : Job → Rows Sig → Type 0
TellTheSame job others = (path name : Bytes) → list_any (name_eq (path, name)) (asked job) ≡ true → told_at others path name ≡ told_at job.outside path name

-- then they may stand in the place of those outside
abbrev pub AskedIsEnough : Type 0
AskedIsEnough = (job : Job) (others : Rows Sig) → TellTheSame job others → job_signatures (record { members = job.members; outside = others }) ≡ job_signatures job

abbrev pub AskedJobsTellTheSame : Type 0
AskedJobsTellTheSame = (job : Job) → job_signatures (asked_job job) ≡ job_signatures job
