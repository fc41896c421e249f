use Rattle.std.proofs.Common.{arith}
use Rattle.code_changes.proofs.Sets.{properties_begun, properties_turned, properties_ended}
use Rattle.code_changes.proofs.change.properties_set.Goals as goal

pub loop-i-init : goal.loop-i-init
loop-i-init c = properties_begun c.new-names.result c.new-names.ensures

pub loop-i-preserved : goal.loop-i-preserved
loop-i-preserved c = properties_turned c.args.changes.now c.loop-i.i c.index-changes-i.result c.loop-i.names c.add_property.new.names (omega arith) c.index-changes-i.is c.loop-i.invariant c.in_ok-add_property.ensures

pub returns : goal.returns
returns c = properties_ended c.args.changes.now c.loop-i.i c.loop-i.names (omega arith) c.loop-i.invariant
