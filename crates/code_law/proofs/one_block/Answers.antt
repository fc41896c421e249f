use Rattle.code_law.proofs.InFront.{same_block}
use Rattle.code_law.proofs.one_block.Goals as goal

pub returns : goal.returns
returns c = same_block
