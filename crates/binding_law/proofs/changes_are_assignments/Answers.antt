use Rattle.binding_law.proofs.Outwards.{changes_are_assignments}
use Rattle.binding_law.proofs.changes_are_assignments.Goals as goal

pub returns : goal.returns
returns c = changes_are_assignments
