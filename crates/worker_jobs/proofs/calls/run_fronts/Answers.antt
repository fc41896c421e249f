use Rattle.job_crew.specs.work_shares.proofs.Counts.{fronts_counted}
use Rattle.tree_crossing.proofs.Jobs.{jobs}
use Rattle.worker_jobs.proofs.calls.run_fronts.Goals as goal

pub run_all-requires-send-X : goal.run_all-requires-send-X
run_all-requires-send-X g c κs within = search jobs depth 20

pub returns-clause-work : goal.returns-clause-work
returns-clause-work g c = fronts_counted c.run_all.result c.args.jobs.now _ _ c.run_all.ensures.work
