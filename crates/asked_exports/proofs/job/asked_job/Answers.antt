use Rattle.std.proofs.Common.{rules}
use Rattle.job_ends.specs.Jobs.{job_view}
use Rattle.asked_exports.proofs.Outside.{small_whole}
use Rattle.asked_exports.proofs.job.asked_job.Goals as goal

pub returns-then-are_small-clause-job : goal.returns-then-are_small-clause-job
returns-then-are_small-clause-job c = small_whole (job_view c.args.job) c.are_small.result (search rules) c.if-are_small.true
