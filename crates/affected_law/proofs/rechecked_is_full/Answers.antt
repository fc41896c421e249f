use Rattle.affected_law.proofs.Rechecked as rechecked
use Rattle.affected_law.proofs.rechecked_is_full.Goals as goal

pub returns : goal.returns
returns c = rechecked.rechecked_is_full c.one_parse.ensures c.merging_is_local.ensures c.key_law.ensures.errors
