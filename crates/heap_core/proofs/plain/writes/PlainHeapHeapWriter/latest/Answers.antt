use Rattle.std.proofs.Common.{arith}
use Rattle.heap_core.specs.PlainLaws.{length-values}
use Rattle.heap_core.proofs.Lists.{get_index}
use Rattle.heap_core.proofs.Overlays.{latest-at}
use Rattle.heap_core.proofs.plain.writes.PlainHeapHeapWriter.latest.Goals as goal

pub returns : goal.returns
returns g c =
    let h = c.args.self.now in let len = length-values h.committed.items in let as_many = h.as_many.0 in let room = c.requires in
    let staged = get_index h.pending.items c.args.e c.index.result.now (omega arith) c.index.ensures in
    let committed = get_index h.committed.items c.args.e c.index-2.result.now (omega arith) c.index-2.ensures in
    latest-at c.latest_of.result h.committed.items h.pending.items c.args.e c.index-2.result.now c.index.result.now committed staged c.latest_of.ensures
