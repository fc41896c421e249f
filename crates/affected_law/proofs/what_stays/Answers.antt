use Rattle.affected_law.proofs.Stays.{parses_stay, signatures_stay, errors_stay, results_stay}
use Rattle.affected_law.proofs.what_stays.Goals as goal

pub returns-clause-parses : goal.returns-clause-parses
returns-clause-parses c = parses_stay c.one_parse.ensures

pub returns-clause-signatures : goal.returns-clause-signatures
returns-clause-signatures c = signatures_stay c.merging_is_local.ensures

pub returns-clause-errors : goal.returns-clause-errors
returns-clause-errors c = errors_stay c.one_parse.ensures c.key_law.ensures.errors c.errors_by_reach.ensures.one

pub returns-clause-results : goal.returns-clause-results
returns-clause-results c = results_stay c.one_parse.ensures c.merging_is_local.ensures c.key_law.ensures.errors c.errors_by_reach.ensures.one
