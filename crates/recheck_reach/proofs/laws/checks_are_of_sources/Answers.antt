use Rattle.recheck_reach.proofs.Wholes.{seen_as_checked, signed_as_checked}
use Rattle.recheck_reach.proofs.laws.checks_are_of_sources.Goals as goal

pub returns-clause-seen : goal.returns-clause-seen
returns-clause-seen c = seen_as_checked c.one_parse.ensures

pub returns-clause-signed : goal.returns-clause-signed
returns-clause-signed c = signed_as_checked c.one_parse.ensures
