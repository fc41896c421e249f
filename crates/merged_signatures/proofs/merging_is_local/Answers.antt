use Rattle.merged_signatures.proofs.Local.{merging_is_local}
use Rattle.merged_signatures.proofs.merging_is_local.Goals as goal

pub returns : goal.returns
returns c = merging_is_local
