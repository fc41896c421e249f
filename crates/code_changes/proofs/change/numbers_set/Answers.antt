use Rattle.std.proofs.Common.{arith}
use Rattle.scopes.specs.View.{scope_view}
use Rattle.code_changes.proofs.Sets.{numbers_begun, numbers_turned, numbers_ended}
use Rattle.code_changes.proofs.change.numbers_set.Goals as goal

pub loop-i-init : goal.loop-i-init
loop-i-init c = numbers_begun (scope_view c.args.scope.now) c.new-numbers.result c.new-numbers.ensures

pub loop-i-preserved : goal.loop-i-preserved
loop-i-preserved c = numbers_turned (scope_view c.args.scope.now) c.args.changes.now c.loop-i.i c.index-changes-i.result c.loop-i.numbers c.add_number.new.numbers (omega arith) c.index-changes-i.is c.loop-i.invariant c.in_ok-add_number.ensures

pub returns : goal.returns
returns c = numbers_ended (scope_view c.args.scope.now) c.args.changes.now c.loop-i.i c.loop-i.numbers (omega arith) c.loop-i.invariant
