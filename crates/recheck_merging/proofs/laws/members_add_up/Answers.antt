use Rattle.recheck_merging.proofs.Counts.{members_add_up}
use Rattle.recheck_merging.proofs.laws.members_add_up.Goals as goal

pub returns : goal.returns
returns c = members_add_up
