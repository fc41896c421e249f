use Rattle.recheck_checking.proofs.Sees.{checks_see_sources}
use Rattle.recheck_checking.proofs.laws.checks_see_sources.Goals as goal

pub returns : goal.returns
returns c = checks_see_sources c.one_parse.ensures
