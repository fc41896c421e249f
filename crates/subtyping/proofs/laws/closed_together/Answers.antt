use Rattle.subtyping.proofs.Itself.{closed_append}
use Rattle.subtyping.proofs.laws.closed_together.Goals as goal

pub returns : goal.returns
returns c = closed_append
