use Rattle.recheck_merging.proofs.Keeps.{kept_are_right}
use Rattle.recheck_merging.proofs.laws.kept_are_right.Goals as goal

pub returns : goal.returns
returns c = kept_are_right c.merging_is_local.ensures
