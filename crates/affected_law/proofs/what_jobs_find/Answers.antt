use Rattle.affected_law.proofs.Kept.{jobs_find_errors}
use Rattle.affected_law.proofs.what_jobs_find.Goals as goal

pub returns : goal.returns
returns c = jobs_find_errors c.cut_is_right.ensures.errors c.errors_by_reach.ensures.cut c.errors_by_reach.ensures.one c.key_law.ensures.errors
