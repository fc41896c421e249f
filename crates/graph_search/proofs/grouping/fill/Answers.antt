use Rattle.std.proofs.Common.{length, get_or, refl, arith}
use Rattle.graph_search.proofs.Lists.{get_index}
use Rattle.graph_search.proofs.Fills.{fills_begin, fills_step, fills_end}
use Rattle.graph_search.proofs.grouping.fill.Goals as goal

pub loop-x-init : goal.loop-x-init
loop-x-init c = fills_begin c.args.keys.now (length c.args.lists.now) c.args.lists.now c.requires.empty

pub put-requires : goal.put-requires
put-requires c = let small = c.requires.below c.loop-x.x 0 (omega arith) in let size = c.loop-x.invariant.len in omega arith

pub loop-x-preserved : goal.loop-x-preserved
loop-x-preserved c = fills_step c.args.keys.now (length c.args.lists.now) c.loop-x.x (get_or c.args.keys.now c.loop-x.x 0) c.loop-x.lists c.put.new.lists (get_index c.args.keys.now c.loop-x.x 0 (get_or c.args.keys.now c.loop-x.x 0) (omega arith) refl) c.loop-x.invariant c.in_ok-put.ensures

pub returns : goal.returns
returns c = fills_end c.args.keys.now (length c.args.lists.now) c.loop-x.x c.loop-x.lists (omega arith) c.loop-x.invariant
