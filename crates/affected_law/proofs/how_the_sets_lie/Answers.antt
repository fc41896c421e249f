use Rattle.affected_law.proofs.Stays.{parsed_are_checked, checks_go_by_merging}
use Rattle.affected_law.proofs.how_the_sets_lie.Goals as goal

pub returns-clause-parsed : goal.returns-clause-parsed
returns-clause-parsed c = parsed_are_checked

pub returns-clause-merged : goal.returns-clause-merged
returns-clause-merged c = checks_go_by_merging c.merging_is_local.ensures
