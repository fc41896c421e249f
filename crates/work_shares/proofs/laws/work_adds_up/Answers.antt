use Rattle.work_shares.proofs.Rises.{sums}
use Rattle.work_shares.proofs.laws.work_adds_up.Goals as goal

pub returns : goal.returns
returns c = sums
