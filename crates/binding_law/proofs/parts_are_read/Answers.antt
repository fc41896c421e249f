use Rattle.binding_law.proofs.Parts.{parts_are_read}
use Rattle.binding_law.proofs.parts_are_read.Goals as goal

pub returns : goal.returns
returns c = parts_are_read
