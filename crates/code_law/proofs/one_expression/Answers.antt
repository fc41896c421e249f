use Rattle.code_law.proofs.Fronts.{same_expression, same_front}
use Rattle.code_law.proofs.one_expression.Goals as goal

pub returns-clause-alone : goal.returns-clause-alone
returns-clause-alone c = same_expression

pub returns-clause-in_front : goal.returns-clause-in_front
returns-clause-in_front c = same_front
