use Rattle.std.proofs.Common.{arith}
use Rattle.check_items.proofs.TypeRows.{named_none, named_next, named_all}
use Rattle.check_items.proofs.types.meanings.Goals as goal

pub loop-i-init : goal.loop-i-init
loop-i-init c = named_none c.args.imports.now c.args.home.now c.new-names.result c.new-names.ensures

pub loop-i-preserved : goal.loop-i-preserved
loop-i-preserved c =
    named_next c.args.imports.now c.args.home.now c.args.rows.now c.loop-i.i c.index-rows-i.result c.in_ok-share.field-0 c.in_ok-meaning.meaning c.loop-i.names c.add.new.self (omega arith) c.index-rows-i.is c.in_ok-share.ensures
    c.in_ok-meaning.ensures c.in_ok-add.ensures.rows c.loop-i.invariant

pub returns : goal.returns
returns c = named_all c.args.imports.now c.args.home.now c.args.rows.now c.loop-i.i c.loop-i.names (omega arith) c.loop-i.invariant
