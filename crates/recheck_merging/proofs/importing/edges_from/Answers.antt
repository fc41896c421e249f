use Rattle.std.proofs.Common.{arith, get_or, Some, ap, ◌∙◌}
use Rattle.heap_core.proofs.Lists.{get_index}
use Rattle.recheck_merging.proofs.Finds.{more_rows, rows_done}
use Rattle.recheck_merging.proofs.importing.edges_from.Goals as goal

pub loop-i-preserved : goal.loop-i-preserved
loop-i-preserved c =
    let rows = c.as_slice-rows.result.now in let row = c.index-rows-i.result in
    more_rows _ rows c.loop-i.i (get_or rows c.loop-i.i row) c.loop-i.edges _ (get_index rows c.loop-i.i row (omega arith) c.index-rows-i.is ∙ ap Some c.index-rows-i.is) c.loop-i.invariant c.in_ok-add_found.ensures

pub returns : goal.returns
returns c = rows_done _ c.args.deps.now.rows c.as_slice-rows.result.now c.loop-i.i c.loop-i.edges c.as_slice-rows.ensures (omega arith) c.loop-i.invariant
