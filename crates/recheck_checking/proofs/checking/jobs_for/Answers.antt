use Rattle.std.proofs.Common.{arith}
use Rattle.recheck_checking.proofs.Puts.{jobs_more}
use Rattle.recheck_checking.proofs.Signed.{tells_one}
use Rattle.recheck_checking.proofs.checking.jobs_for.Goals as goal

pub job_of-requires-clause-told : goal.job_of-requires-clause-told
job_of-requires-clause-told c = tells_one c.args.sources.now c.args.signatures.now c.args.numbers.now c.args.table.now.rows c.loop-i.i (omega arith) c.requires.told

pub loop-i-preserved : goal.loop-i-preserved
loop-i-preserved c = jobs_more c.args.sources.now c.args.signatures.now c.args.numbers.now c.loop-i.i c.in_ok-job.job c.loop-i.jobs.items _ (omega arith) c.loop-i.invariant c.in_ok-job.ensures c.in_ok-push.ensures.items
