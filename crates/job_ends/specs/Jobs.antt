-- A job of the code as a job of the definitions, and the rows of its members by their names.
use Rattle.std.specs.Prelude.{List, map}
use Rattle.check_values.specs.Rows.{Bytes, Rows}
use Rattle.check_values.specs.declared.signatures.ImportRow.{ImportRow}
use Rattle.merged_signatures.specs.Chains.{Known}
use Rattle.merged_signatures.specs.Job.{Job}
use Rattle.job_ends.specs.declared.job.MergeMember.{MergeMember}
use Rattle.job_ends.specs.declared.job.MergeJob.{MergeJob}

-- what is known of a member
abbrev pub known_of : MergeMember → Known
known_of m = record { sig = m.sig; deps = m.deps }

-- a member's path, and what is known of it
abbrev pub member_view : MergeMember → Bytes × Known
member_view m = (m.path, known_of m)

abbrev pub job_view : MergeJob → Job
job_view job = record { members = map member_view job.members; outside = job.outside }

-- imports by their local names
abbrev pub imports_by_local : List ImportRow → Rows ImportRow
imports_by_local rows = map (λ row. (row.local, row)) rows
