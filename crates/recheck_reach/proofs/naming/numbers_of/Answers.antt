use Rattle.heap_core.proofs.Lists.{get_index}
use Rattle.recheck_reach.proofs.Named.{more_paths}
use Rattle.recheck_reach.proofs.naming.numbers_of.Goals as goal

pub loop-i-preserved : goal.loop-i-preserved
loop-i-preserved c =
    more_paths _ c.args.paths.now c.loop-i.i c.index-paths-i.result c.loop-i.numbers _ (get_index c.args.paths.now c.loop-i.i c.index-paths-i.result c.loop-i-test.true c.index-paths-i.is) c.loop-i.invariant c.in_ok-add_number.ensures
