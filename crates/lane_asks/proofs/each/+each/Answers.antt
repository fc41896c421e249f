use Rattle.std.proofs.Common.{arith}
use Rattle.lane_asks.proofs.Places.{zip_parts, zip_whole, groups_ended}
use Rattle.lane_asks.proofs.each.+each.Goals as goal

pub do_each-do_both-front-requires-clause-ready : goal.do_each-do_both-front-requires-clause-ready
do_each-do_both-front-requires-clause-ready g t c κs within =
    let lanes = c.split_at_mut-first.ensures in let rows = c.split_at_mut-upper.ensures in let f = lanes.front_len in let u = rows.front_len in
    zip_parts (g.K.Stint.ready c.args.heap.now c.args.asks.now) c.args.lanes.now c.split_at_mut-first.result.0.now c.split_at_mut-first.result.1.now c.args.rows.now c.split_at_mut-upper.result.0.now c.split_at_mut-upper.result.1.now lanes.value rows.value (omega arith) c.requires.ready

pub do_each-returns-clause-kept : goal.do_each-returns-clause-kept
do_each-returns-clause-kept g t c =
    zip_whole (g.K.Stint.kept c.args.heap.now) c.args.lanes.now c.split_at_mut-first.result.0.now c.split_at_mut-first.result.1.now c.do_both-front.new.first c.do_both-front.new.second c.split_at_mut-first.ensures.value c.do_both-front.ensures.front_kept c.do_both-front.ensures.back_kept

pub do_each-returns-clause-told : goal.do_each-returns-clause-told
do_each-returns-clause-told g t c =
    groups_ended (g.K.Stint.told c.args.asks.now) c.do_both-front.result.0 c.do_both-front.result.1 c.joined.result c.args.lanes.now c.split_at_mut-first.result.0.now c.do_both-front.new.first c.split_at_mut-first.result.1.now c.do_both-front.new.second
    c.args.askers.now c.split_at_mut-left.result.0.now c.do_both-front.new.left c.split_at_mut-left.result.1.now c.do_both-front.new.right
    c.args.rows.now c.split_at_mut-upper.result.0.now c.do_both-front.new.upper c.split_at_mut-upper.result.1.now c.do_both-front.new.lower
    c.split_at_mut-first.ensures.value c.split_at_mut-left.ensures.value c.split_at_mut-upper.ensures.value c.joined.ensures c.do_both-front.ensures.front c.do_both-front.ensures.back
