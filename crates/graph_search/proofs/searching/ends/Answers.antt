use Rattle.std.proofs.Common.{sym, ◌∙◌, ap, Some}
use Rattle.graph_search.proofs.Lists.{get_index}
use Rattle.graph_search.proofs.searching.ends.Goals as goal

pub returns : goal.returns
returns c = get_index c.args.edges.now c.args.x c.index-edges-x.result c.index-edges-x.result c.requires (sym c.index-edges-x.is) ∙ ap Some (sym c.as_slice.ensures)
