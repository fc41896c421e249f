use Rattle.path_numbers.proofs.Sets as sets
use Rattle.path_numbers.proofs.sets_are_numbers.Goals as goal

pub returns-clause-merged : goal.returns-clause-merged
returns-clause-merged c = sets.merged_are_numbers c.all_stays_inside.ensures.imports c.all_stays_inside.ensures.named

pub returns-clause-stirred : goal.returns-clause-stirred
returns-clause-stirred c = sets.stirred_are_numbers c.all_stays_inside.ensures.imports c.all_stays_inside.ensures.named

pub returns-clause-checked : goal.returns-clause-checked
returns-clause-checked c = sets.checked_are_numbers c.all_stays_inside.ensures.imports c.all_stays_inside.ensures.named c.reach_is_by_names.ensures.checked
