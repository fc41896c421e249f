use Rattle.affected_law.proofs.Inside.{found_is_among, named_is_known, imports_stay_inside, reach_stays_inside}
use Rattle.affected_law.proofs.all_stays_inside.Goals as goal

pub returns-clause-found : goal.returns-clause-found
returns-clause-found c = found_is_among

pub returns-clause-named : goal.returns-clause-named
returns-clause-named c = named_is_known

pub returns-clause-imports : goal.returns-clause-imports
returns-clause-imports c = imports_stay_inside

pub returns-clause-reach : goal.returns-clause-reach
returns-clause-reach c = reach_stays_inside
