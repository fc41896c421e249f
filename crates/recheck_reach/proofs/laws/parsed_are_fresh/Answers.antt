use Rattle.recheck_reach.proofs.Fresh.{parsed_are_fresh}
use Rattle.recheck_reach.proofs.laws.parsed_are_fresh.Goals as goal

pub returns : goal.returns
returns c = parsed_are_fresh
