use Rattle.subtyping.proofs.Justified.{objects_below}
use Rattle.subtyping.proofs.laws.object_is_below.Goals as goal

pub returns : goal.returns
returns c = objects_below
