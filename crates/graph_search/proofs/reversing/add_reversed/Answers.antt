use Rattle.std.proofs.Common.{ap, length, ◌∙◌, arith}
use Rattle.std.proofs.lemmas.List.{length-replicate}
use Rattle.graph_search.proofs.EdgeLemmas.{reverse_begins, reverse_step, reverse_ends}
use Rattle.graph_search.proofs.Searches.{list_small_here}
use Rattle.graph_search.proofs.reversing.add_reversed.Goals as goal

pub loop-x-init : goal.loop-x-init
loop-x-init c = reverse_begins c.args.edges.now c.args.back.now c.requires.empty (ap length c.requires.empty ∙ length-replicate _ _)

pub add_all-requires : goal.add_all-requires
add_all-requires c = list_small_here c.args.edges.now c.loop-x.x c.ends.result.now c.loop-x.back c.requires.within c.ends.ensures c.loop-x.invariant.len

pub loop-x-preserved : goal.loop-x-preserved
loop-x-preserved c = reverse_step c.args.edges.now c.loop-x.x c.ends.result.now c.ends.ensures c.loop-x.invariant c.in_ok-add_all.ensures

pub returns : goal.returns
returns c = reverse_ends c.args.edges.now c.loop-x.back c.loop-x.x (omega arith) c.loop-x.invariant
