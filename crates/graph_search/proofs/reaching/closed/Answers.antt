use Rattle.std.proofs.Common.{ap, length, ◌∙◌}
use Rattle.std.proofs.lemmas.List.{length-replicate}
use Rattle.graph_search.proofs.Reaches.{are_reached}
use Rattle.graph_search.proofs.reaching.closed.Goals as goal

pub search-requires-clause-size : goal.search-requires-clause-size
search-requires-clause-size c = ap length c.requires.opened ∙ length-replicate _ _

pub returns : goal.returns
returns c = are_reached c.args.edges.now c.args.starts.now c.args.opened.now c.search.new.opened c.in_ok-search.field-0 c.in_ok-all.all c.requires.opened c.requires.within c.requires.starts c.in_ok-search.ensures c.in_ok-all.ensures
