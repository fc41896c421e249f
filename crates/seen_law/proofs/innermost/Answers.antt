use Rattle.seen_law.proofs.Items.{tells_innermost}
use Rattle.seen_law.proofs.innermost.Goals as goal

pub returns : goal.returns
returns c = tells_innermost
