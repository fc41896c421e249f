use Rattle.recheck_reach.proofs.Touches.{differs_are_touched}
use Rattle.recheck_reach.proofs.laws.differs_are_touched.Goals as goal

pub returns : goal.returns
returns c = differs_are_touched
