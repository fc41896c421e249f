use Rattle.recheck_law.proofs.Lists as lists
use Rattle.recheck_law.proofs.what_is_found_stays.Goals as goal

pub returns-clause-found : goal.returns-clause-found
returns-clause-found c = lists.found_stays

pub returns-clause-rows : goal.returns-clause-rows
returns-clause-rows c = lists.rows_stay

pub returns-clause-lists : goal.returns-clause-lists
returns-clause-lists c = lists.lists_stay
