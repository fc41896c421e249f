use Rattle.std.proofs.Common.{arith}
use Rattle.literal_reads.specs.Keys.{entry_view}
use Rattle.literal_reads.specs.View.{entries_view}
use Rattle.check_expr.proofs.Fronts.{entries_begin, entries_next}
use Rattle.check_expr.proofs.literals.entries_of.Goals as goal

pub loop-i-init : goal.loop-i-init
loop-i-init c = entries_begin c.args.fields.now (entries_view c.new-entries.result) c.new-entries.ensures

pub loop-i-preserved : goal.loop-i-preserved
loop-i-preserved c =
    entries_next c.args.fields.now c.loop-i.i c.index-fields-i.result (entries_view c.loop-i.entries) (entries_view c.add.new.self) (entry_view c.in_ok-entry.entry) (omega arith) c.index-fields-i.is c.loop-i.invariant c.in_ok-entry.ensures c.in_ok-add.ensures.ok
