use Rattle.alias_table.proofs.OneType.{some_type, one_type}
use Rattle.alias_table.proofs.unfolding.unfolds_to_one_type.Goals as goal

pub returns-clause-some : goal.returns-clause-some
returns-clause-some c = some_type

pub returns-clause-one : goal.returns-clause-one
returns-clause-one c = one_type
