use Rattle.asked_exports.proofs.Enough.{asked_is_enough}
use Rattle.asked_exports.proofs.Cuts.{asked_jobs_tell}
use Rattle.asked_exports.proofs.law.asked_is_enough.Goals as goal

pub returns-clause-law : goal.returns-clause-law
returns-clause-law c = asked_is_enough

pub returns-clause-jobs : goal.returns-clause-jobs
returns-clause-jobs c = asked_jobs_tell
