use Rattle.graph_search.proofs.Uniques.{one_waves}
use Rattle.graph_search.proofs.laws.one_list_of_waves.Goals as goal

pub returns : goal.returns
returns c = one_waves
