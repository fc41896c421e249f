-- The jobs of merging may be lent to other threads.
use denote.Param.Send.{IsSync}
use Rattle.check_values.specs.contracts.signatures.LocalSig as LocalSig
use Rattle.flow_values.specs.contracts.shared.Shared as Shared
use Rattle.job_ends.specs.contracts.job.MergeJob as MergeJob
use Rattle.job_ends.specs.contracts.job.MergeMember as MergeMember
use Rattle.tree_crossing.proofs.Formers.{formers}
use Rattle.tree_crossing.proofs.Jobs.{path_sync, local_sig_send, local_sig_sync, shared_deps_sync, shared_sig_sync}

local_sigs_sync : IsSync (Shared.the_field LocalSig.the_row).row
local_sigs_sync = search (formers, local_sig_send, local_sig_sync) depth 20

member_sync : IsSync (MergeMember.the_field).row
member_sync = search (formers, path_sync, local_sigs_sync, shared_deps_sync) depth 20

pub merge_job_sync : IsSync (MergeJob.the_field).row
merge_job_sync = search (formers, path_sync, member_sync, shared_sig_sync) depth 20
