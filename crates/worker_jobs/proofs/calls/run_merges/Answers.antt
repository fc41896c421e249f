use Rattle.std.proofs.Common.{length}
use Rattle.merged_signatures.specs.Job.{job_signatures}
use Rattle.job_ends.specs.Jobs.{job_view}
use Rattle.job_crew.specs.work_shares.proofs.Counts.{merges_counted}
use Rattle.tree_crossing.proofs.Formers.{formers}
use Rattle.worker_jobs.proofs.Answering.{answers_are}
use Rattle.worker_jobs.proofs.Crossing.{merge_job_sync}
use Rattle.worker_jobs.proofs.calls.run_merges.Goals as goal

pub run_all-requires-sync-J : goal.run_all-requires-sync-J
run_all-requires-sync-J g c κs within = search (formers, merge_job_sync) depth 20

pub returns-clause-signatures : goal.returns-clause-signatures
returns-clause-signatures g c = answers_are (λ job. job_signatures (job_view job)) c.run_all.result c.args.jobs.now c.run_all.ensures.answers

pub returns-clause-work : goal.returns-clause-work
returns-clause-work g c = merges_counted c.run_all.result c.args.jobs.now _ _ (λ job. length job.members) c.run_all.ensures.work
