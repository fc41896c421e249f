use Rattle.typing_laws.proofs.Odd.{keeps_constants}
use Rattle.typing_laws.proofs.Scopes.{each_number_tells}
use Rattle.typing_laws.proofs.each_number_tells.Goals as goal

pub returns-clause-tells : goal.returns-clause-tells
returns-clause-tells c = each_number_tells

pub returns-clause-keeps : goal.returns-clause-keeps
returns-clause-keeps c = keeps_constants
