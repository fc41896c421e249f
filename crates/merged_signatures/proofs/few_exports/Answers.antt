use Rattle.merged_signatures.proofs.Small.{small_with_few_exports}
use Rattle.merged_signatures.proofs.few_exports.Goals as goal

pub returns : goal.returns
returns c = small_with_few_exports
