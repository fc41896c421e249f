use Rattle.std.proofs.Common.{arith}
use Rattle.check_items.proofs.SecondExports.{listed_none, listed_next, listed_all}
use Rattle.check_items.proofs.exports.add_list.Goals as goal

pub loop-i-init : goal.loop-i-init
loop-i-init c = listed_none c.args.out.now.items

pub loop-i-preserved : goal.loop-i-preserved
loop-i-preserved c =
    listed_next c.as_slice-names.result.now c.loop-i.i c.index-names-i.result c.args.out.now.items c.loop-i.out.items c.add_listed.new.out.items (omega arith) c.index-names-i.is c.in_ok-add_listed.ensures c.loop-i.invariant

pub returns : goal.returns
returns c = listed_all c.as_slice-names.result.now c.args.list.now.names c.loop-i.i c.args.out.now.items c.loop-i.out.items (omega arith) c.as_slice-names.ensures c.loop-i.invariant
