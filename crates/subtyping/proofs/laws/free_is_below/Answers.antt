use Rattle.subtyping.proofs.Justified.{free_below}
use Rattle.subtyping.proofs.laws.free_is_below.Goals as goal

pub returns : goal.returns
returns c = free_below
