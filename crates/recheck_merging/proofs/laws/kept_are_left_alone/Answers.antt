use Rattle.recheck_merging.proofs.Alone.{kept_are_left_alone}
use Rattle.recheck_merging.proofs.laws.kept_are_left_alone.Goals as goal

pub returns : goal.returns
returns c = kept_are_left_alone c.a_job_tells_the_program.ensures
