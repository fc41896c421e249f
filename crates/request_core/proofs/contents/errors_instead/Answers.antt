use Rattle.request_core.proofs.contents.errors_instead.Goals as goal

pub returns-clause-errors : goal.returns-clause-errors
returns-clause-errors g c = (c.in_ok-job.job, c.in_ok-job.ensures.job, c.in_ok-errs.ensures.errors)
