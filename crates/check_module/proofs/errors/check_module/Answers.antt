use Rattle.check_module.proofs.JobSources.{broken_told}
use Rattle.check_module.proofs.errors.check_module.Goals as goal

pub returns-in_ok-push-in-Broken : goal.returns-in_ok-push-in-Broken
returns-in_ok-push-in-Broken c = broken_told c.args.job.now _ _ _ _ _ c.get-parse.ensures c.in-Broken.is c.in_ok-fault-in-Broken.ensures c.new-faults.ensures c.in_ok-push-in-Broken.ensures.ok
