use Rattle.module_law.proofs.ItemInFront.{same_item}
use Rattle.module_law.proofs.one_item.Goals as goal

pub returns : goal.returns
returns c = same_item
