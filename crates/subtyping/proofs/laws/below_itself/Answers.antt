use Rattle.subtyping.proofs.Named.{rows_itself}
use Rattle.subtyping.proofs.laws.below_itself.Goals as goal

pub returns : goal.returns
returns c = rows_itself
