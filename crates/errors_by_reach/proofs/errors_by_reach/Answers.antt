use Rattle.errors_by_reach.proofs.Laws.{cut_agrees, one_answer, one_by_reach}
use Rattle.errors_by_reach.proofs.errors_by_reach.Goals as goal

pub returns-clause-one : goal.returns-clause-one
returns-clause-one c = one_answer

pub returns-clause-one_by_reach : goal.returns-clause-one_by_reach
returns-clause-one_by_reach c = one_by_reach

pub returns-clause-cut : goal.returns-clause-cut
returns-clause-cut c = cut_agrees
