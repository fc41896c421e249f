use Rattle.binding_law.proofs.Entering.{finds_same, means_same}
use Rattle.binding_law.proofs.names_find_variables.Goals as goal

pub returns-clause-same : goal.returns-clause-same
returns-clause-same c = finds_same

pub returns-clause-means : goal.returns-clause-means
returns-clause-means c = means_same
