use Rattle.reach_law.proofs.Reaching as laws
use Rattle.reach_law.proofs.errors_by_reach.Goals as goal

pub returns-clause-errors : goal.returns-clause-errors
returns-clause-errors c = laws.errors_by_reach

pub returns-clause-types : goal.returns-clause-types
returns-clause-types c = laws.types_by_reach
