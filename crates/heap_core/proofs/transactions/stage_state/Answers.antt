use Rattle.std.proofs.Common.{◌∙◌, arith}
use Rattle.heap_core.proofs.TransactionLaws.{staging_more, flags_more, latest_more}
use Rattle.heap_core.proofs.transactions.stage_state.Goals as goal

pub loop-e-preserved : goal.loop-e-preserved
loop-e-preserved g c =
    let so_far = c.loop-e.invariant in
    let many = (g.met.W.HeapWriter.sound c.args.writer.now).as_many in
    let entities = c.requires.entities in
    record {
      latest =
          latest_more (g.W.HeapWriter.meaning c.args.writer.now) _ _ c.args.state.now c.loop-e.e c.index-state-e.result c.in_ok-try_clone.field-0 (omega arith) c.index-state-e.is c.in_ok-try_clone.ensures (omega arith)
          c.in_ok-stage.ensures.ok so_far.latest;
      staged = flags_more (g.W.HeapWriter.meaning c.args.writer.now) _ _ c.loop-e.e _ (omega arith) c.in_ok-stage.ensures.ok so_far.staged;
      staging = staging_more _ _ _ c.loop-e.e _ so_far.staging c.in_ok-stage.ensures.ok;
      told = c.stage.ensures.told ∙ so_far.told;
      part = c.stage.ensures.part ∙ so_far.part;
    }
