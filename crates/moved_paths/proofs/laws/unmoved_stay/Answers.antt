use Rattle.moved_paths.proofs.Stays.{stays}
use Rattle.moved_paths.proofs.laws.unmoved_stay.Goals as goal

pub returns : goal.returns
returns c = stays
