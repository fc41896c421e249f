use Rattle.state_law.proofs.Checks as checks
use Rattle.state_law.proofs.each_state_has_a_check.Goals as goal

pub returns : goal.returns
returns c = checks.each_state_has_a_check c.one_parse.ensures c.one_full.ensures
