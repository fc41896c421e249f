use Rattle.std.proofs.Common.{arith}
use Rattle.named_rows.specs.Seen.{seen}
use Rattle.check_items.specs.Meant.{meant_view}
use Rattle.check_items.proofs.TypeRows.{listed_none, listed_next, listed_all}
use Rattle.check_items.proofs.naming.add_list.Goals as goal

pub loop-i-init : goal.loop-i-init
loop-i-init c = listed_none c.args.is_type c.args.specifier.now (seen meant_view c.args.rows.now.items)

pub loop-i-preserved : goal.loop-i-preserved
loop-i-preserved c =
    listed_next c.args.is_type c.args.specifier.now c.as_slice-names.result.now c.loop-i.i c.index-names-i.result (seen meant_view c.args.rows.now.items) (seen meant_view c.loop-i.rows.items)
    (seen meant_view c.add_imported.new.rows.items) (omega arith) c.index-names-i.is c.in_ok-add_imported.ensures c.loop-i.invariant

pub returns : goal.returns
returns c =
    listed_all c.args.is_type c.args.specifier.now c.as_slice-names.result.now c.args.list.now.names c.loop-i.i (seen meant_view c.args.rows.now.items) (seen meant_view c.loop-i.rows.items) (omega arith) c.as_slice-names.ensures
    c.loop-i.invariant
