use Rattle.binding_law.proofs.Sharing.{numbers_assigned}
use Rattle.binding_law.proofs.numbers_are_assigned.Goals as goal

pub returns : goal.returns
returns c = numbers_assigned
