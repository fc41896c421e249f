use Rattle.full_law.proofs.Cutting.{each_has_answer}
use Rattle.full_law.proofs.each_has_answer.Goals as goal

pub returns : goal.returns
returns c = each_has_answer
