use Rattle.program_check.proofs.One.{one_full}
use Rattle.program_check.proofs.one_full.Goals as goal

pub returns : goal.returns
returns c = one_full c.one_parse.ensures c.errors_by_reach.ensures.one
