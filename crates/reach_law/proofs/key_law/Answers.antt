use Rattle.reach_law.proofs.Keys as laws
use Rattle.reach_law.proofs.key_law.Goals as goal

pub returns-clause-errors : goal.returns-clause-errors
returns-clause-errors c = laws.key_law

pub returns-clause-types : goal.returns-clause-types
returns-clause-types c = laws.type_key_law
