use Rattle.lane_asks.proofs.Idle.{lanes_stay, nothing_told}
use Rattle.lane_asks.proofs.lanes.answer_beside.Goals as goal

pub returns-then-is_empty-clause-kept : goal.returns-then-is_empty-clause-kept
returns-then-is_empty-clause-kept g c = lanes_stay c.args.heap.now c.args.asks.now c.args.lanes.now c.args.rows.now c.requires.ready

pub returns-then-is_empty-clause-told : goal.returns-then-is_empty-clause-told
returns-then-is_empty-clause-told g c =
    nothing_told g.K.Asked.answers g.K.Asked.works c.args.heap.now c.args.asks.now c.args.lanes.now c.args.askers.now c.args.rows.now c.is_empty.result c.is_empty.ensures c.if-is_empty.true c.requires.askers c.requires.ready
