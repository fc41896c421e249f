use Rattle.recheck_checking.proofs.Filled.{all_are_checked}
use Rattle.recheck_checking.proofs.laws.all_are_checked.Goals as goal

pub returns : goal.returns
returns c = all_are_checked
