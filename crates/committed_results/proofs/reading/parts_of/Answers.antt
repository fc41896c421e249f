use Rattle.std.proofs.Common.{◌<◌, length, arith}
use Rattle.check_values.specs.declared.root.RootRow.{RootRow}
use Rattle.state_law.specs.payloads.specs.Entities.{errors_entity}
use Rattle.committed_results.specs.Held.{IsOfKind}
use Rattle.committed_results.proofs.Taken.{row_there, held_more}
use Rattle.committed_results.proofs.reading.parts_of.Goals as goal

pub part_of-requires-clause-within : goal.part_of-requires-clause-within
part_of-requires-clause-within g c =
    row_there (λ (m : RootRow). errors_entity m.row < length (g.W.HeapWriter.meaning c.args.writer.now).committed) c.args.modules.now c.loop-i.i c.index-modules-i.result c.requires.within (omega arith) c.index-modules-i.is

pub part_of-requires-clause-kind : goal.part_of-requires-clause-kind
part_of-requires-clause-kind g c =
    row_there (λ (m : RootRow). IsOfKind g.P.Part.is_of (g.W.HeapWriter.meaning c.args.writer.now).committed (g.P.Part.place m.row)) c.args.modules.now c.loop-i.i c.index-modules-i.result c.requires.kinds (omega arith) c.index-modules-i.is

pub loop-i-preserved : goal.loop-i-preserved
loop-i-preserved g c =
    held_more (g.W.HeapWriter.meaning c.args.writer.now).committed g.P.Part.place g.P.Part.put c.args.modules.now c.loop-i.parts.items _ c.loop-i.i c.index-modules-i.result c.in_ok-part.part (omega arith) c.index-modules-i.is c.loop-i.invariant c.in_ok-part.ensures
    c.in_ok-push.ensures.items
