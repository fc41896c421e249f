use Rattle.flowd_top.proofs.Transcripts.{goes_on_to}
use Rattle.flowd_top.proofs.laws.a_front_goes_on.Goals as goal

pub returns : goal.returns
returns c = goes_on_to c.a_front_goes_on.ensures
