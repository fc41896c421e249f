use Rattle.std.proofs.Common.{arith}
use Rattle.recheck_sources.proofs.Fresh.{texts_more}
use Rattle.recheck_sources.proofs.parsing.fresh_texts.Goals as goal

pub loop-i-preserved : goal.loop-i-preserved
loop-i-preserved c = texts_more c.args.fresh.now c.args.modules.now c.loop-i.i c.index-modules-i.result c.loop-i.texts _ (omega arith) c.requires c.index-modules-i.is c.loop-i.invariant c.in_ok-add_fresh.ensures
