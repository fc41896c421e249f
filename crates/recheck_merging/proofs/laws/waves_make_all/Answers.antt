use Rattle.recheck_merging.proofs.Whole.{waves_make_all}
use Rattle.recheck_merging.proofs.laws.waves_make_all.Goals as goal

pub returns : goal.returns
returns c = waves_make_all
