use Rattle.job_crew.specs.work_shares.proofs.Counts.{checks_counted}
use Rattle.tree_crossing.proofs.Jobs.{jobs}
use Rattle.worker_jobs.proofs.calls.run_checks.Goals as goal

pub run_all-requires-sync-J : goal.run_all-requires-sync-J
run_all-requires-sync-J g c κs within = search jobs depth 20

pub returns-clause-work : goal.returns-clause-work
returns-clause-work g c = checks_counted c.run_all.result c.args.jobs.now _ _ c.run_all.ensures.work
