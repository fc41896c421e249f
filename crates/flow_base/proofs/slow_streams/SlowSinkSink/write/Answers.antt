use Rattle.std.proofs.Common.{rules}
use Rattle.flow_base.proofs.Pieces.{counts_more}
use Rattle.flow_base.proofs.slow_streams.SlowSinkSink.write.Goals as goal

pub returns-clause-counts : goal.returns-clause-counts
returns-clause-counts c = counts_more _ c.args.piece.now _ c.min-most.result c.write.result _ _ (search rules) (search rules) c.write.ensures.counts
