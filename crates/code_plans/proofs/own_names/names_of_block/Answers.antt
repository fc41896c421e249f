use Rattle.std.proofs.Common.{arith}
use Rattle.code_plans.proofs.Owning.{owns_none, owns_more, owns_all}
use Rattle.code_plans.proofs.own_names.names_of_block.Goals as goal

pub loop-i-init : goal.loop-i-init
loop-i-init c = owns_none c.new-own.result c.args.statements.now c.new-own.ensures.empty

pub loop-i-preserved : goal.loop-i-preserved
loop-i-preserved c = owns_more c.loop-i.own c.add_declared.new.own c.args.statements.now c.loop-i.i c.index-statements-i.result (omega arith) c.index-statements-i.is c.loop-i.invariant c.in_ok-add_declared.ensures

pub returns : goal.returns
returns c = owns_all c.loop-i.own c.args.statements.now c.loop-i.i (omega arith) c.loop-i.invariant
