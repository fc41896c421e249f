use Rattle.binding_law.proofs.Tops.{numbers_tell_variables}
use Rattle.binding_law.proofs.numbers_tell_variables.Goals as goal

pub returns : goal.returns
returns c = numbers_tell_variables
