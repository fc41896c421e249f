use Rattle.reach_law.proofs.Keys as laws
use Rattle.reach_law.proofs.cut_is_right.Goals as goal

pub returns-clause-errors : goal.returns-clause-errors
returns-clause-errors c = laws.cut_is_right

pub returns-clause-types : goal.returns-clause-types
returns-clause-types c = laws.type_cut_is_right

pub returns-clause-jobs : goal.returns-clause-jobs
returns-clause-jobs c = laws.jobs_are_right
