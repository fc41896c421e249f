use Rattle.std.proofs.Common.{arith}
use Rattle.code_changes.proofs.Parts.{declared_begun, declared_turned, declared_ended}
use Rattle.code_changes.proofs.names.add_declared_in.Goals as goal

pub loop-i-init : goal.loop-i-init
loop-i-init c = declared_begun c.args.all.now c.args.own.now

pub loop-i-preserved : goal.loop-i-preserved
loop-i-preserved c = declared_turned c.args.all.now c.loop-i.i c.index-all-i.result c.args.own.now c.loop-i.own c.add_declared.new.own (omega arith) c.index-all-i.is c.loop-i.invariant c.in_ok-add_declared.ensures

pub returns : goal.returns
returns c = declared_ended c.args.all.now c.loop-i.i c.args.own.now c.loop-i.own (omega arith) c.loop-i.invariant
