use Rattle.graph_search.proofs.Uniques.{one_components}
use Rattle.graph_search.proofs.laws.one_list_of_components.Goals as goal

pub returns : goal.returns
returns c = one_components
