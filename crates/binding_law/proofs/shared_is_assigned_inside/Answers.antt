use Rattle.binding_law.proofs.Sharing.{shared_assigned_inside}
use Rattle.binding_law.proofs.Tops.{shared_numbers_assigned}
use Rattle.binding_law.proofs.shared_is_assigned_inside.Goals as goal

pub returns-clause-found : goal.returns-clause-found
returns-clause-found c = shared_assigned_inside

pub returns-clause-numbered : goal.returns-clause-numbered
returns-clause-numbered c = shared_numbers_assigned
