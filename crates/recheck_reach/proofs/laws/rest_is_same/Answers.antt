use Rattle.recheck_reach.proofs.Rests.{rest_is_same}
use Rattle.recheck_reach.proofs.laws.rest_is_same.Goals as goal

pub returns : goal.returns
returns c = rest_is_same c.kept_are_right.ensures
