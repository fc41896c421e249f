use Rattle.recheck_checking.proofs.Sees.{made_is_full}
use Rattle.recheck_checking.proofs.laws.made_is_full.Goals as goal

pub returns : goal.returns
returns c = made_is_full
