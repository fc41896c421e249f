use Rattle.subtyping.proofs.Justified.{functions_below}
use Rattle.subtyping.proofs.laws.function_is_below.Goals as goal

pub returns : goal.returns
returns c = functions_below
