use Rattle.subtyping.proofs.Justified.{tuples_below}
use Rattle.subtyping.proofs.laws.tuple_is_below.Goals as goal

pub returns : goal.returns
returns c = tuples_below
