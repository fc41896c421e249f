use Rattle.std.proofs.Common.{sym, ◌∙◌, arith}
use Rattle.code_changes.proofs.Sets.{none_begun, none_turned, none_found, some_found}
use Rattle.code_changes.proofs.change.any_sets_all.Goals as goal

pub loop-i-init : goal.loop-i-init
loop-i-init c = none_begun

pub returns-then-sets_all : goal.returns-then-sets_all
returns-then-sets_all c = some_found c.args.changes.now c.loop-i.i c.index-changes-i.result (omega arith) c.index-changes-i.is (sym c.sets_all.ensures ∙ c.if-sets_all.true)

pub loop-i-preserved : goal.loop-i-preserved
loop-i-preserved c = none_turned c.args.changes.now c.loop-i.i c.index-changes-i.result (omega arith) c.index-changes-i.is c.loop-i.invariant (sym c.sets_all.ensures ∙ c.if-sets_all.false)

pub returns : goal.returns
returns c = none_found c.args.changes.now c.loop-i.i (omega arith) c.loop-i.invariant
