use Rattle.merged_signatures.proofs.Telling.{tells_the_program}
use Rattle.merged_signatures.proofs.a_job_tells_the_program.Goals as goal

pub returns : goal.returns
returns c = tells_the_program
