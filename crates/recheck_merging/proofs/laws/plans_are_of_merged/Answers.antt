use Rattle.recheck_merging.proofs.Tells.{plans_are_of_merged}
use Rattle.recheck_merging.proofs.laws.plans_are_of_merged.Goals as goal

pub returns : goal.returns
returns c = plans_are_of_merged
