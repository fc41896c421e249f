use Rattle.recheck_reach.proofs.Checks.{unmoved_are_changed}
use Rattle.recheck_reach.proofs.laws.unmoved_are_changed.Goals as goal

pub returns : goal.returns
returns c = unmoved_are_changed
