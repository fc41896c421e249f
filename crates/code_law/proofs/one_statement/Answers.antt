use Rattle.code_law.proofs.InFront.{same_statement}
use Rattle.code_law.proofs.one_statement.Goals as goal

pub returns : goal.returns
returns c = same_statement
