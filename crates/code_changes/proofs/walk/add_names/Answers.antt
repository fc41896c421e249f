use Rattle.std.proofs.Common.{arith}
use Rattle.code_changes.proofs.OwnNames.{added_more}
use Rattle.code_changes.proofs.walk.add_names.Goals as goal

pub loop-i-preserved : goal.loop-i-preserved
loop-i-preserved c =
    added_more c.args.own.now c.loop-i.own c.add_name.new.own c.args.names.now c.loop-i.i c.index-names-i.result c.loop-i.added c.add_name.new.added (omega arith) c.index-names-i.is c.loop-i.invariant c.in_ok-add_name.ensures.own c.in_ok-add_name.ensures.added
