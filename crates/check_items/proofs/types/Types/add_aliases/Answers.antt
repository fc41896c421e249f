use Rattle.std.proofs.Common.{arith}
use Rattle.check_world.specs.View.{meaning_in}
use Rattle.check_items.proofs.TypeRows.{rows_none, rows_next, rows_all}
use Rattle.check_items.proofs.types.Types.add_aliases.Goals as goal

pub loop-i-init : goal.loop-i-init
loop-i-init c = rows_none c.args.home.now (meaning_in c.args.self.now.names) c.args.out.now.items

pub loop-i-preserved : goal.loop-i-preserved
loop-i-preserved c =
    rows_next c.args.home.now (meaning_in c.args.self.now.names) c.as_slice-rows.result.now c.loop-i.i c.index-rows-i.result c.args.out.now.items c.loop-i.out.items c.add_alias.new.out.items (omega arith) c.index-rows-i.is
    c.in_ok-add_alias.ensures c.loop-i.invariant

pub returns : goal.returns
returns c =
    rows_all c.args.home.now (meaning_in c.args.self.now.names) c.as_slice-rows.result.now c.args.self.now.rows.items c.loop-i.i c.args.out.now.items c.loop-i.out.items (omega arith) c.as_slice-rows.ensures.value c.loop-i.invariant
