use Rattle.std.proofs.Common.{Some, sym, subst, arith}
use Rattle.check_values.specs.declared.root.RootRow.{RootRow}
use Rattle.edited_root.specs.Numbering.{Marks}
use Rattle.edited_root.proofs.Marks.{more_rows}
use Rattle.edited_root.proofs.numbering.marks_of_rows.Goals as goal

pub loop-i-preserved : goal.loop-i-preserved
loop-i-preserved c = more_rows c.args.modules.now c.loop-i.i c.args.capacity c.index-modules-i.result c.loop-i.marks.items _ (omega arith) c.index-modules-i.is c.loop-i.invariant (subst (λ (m : RootRow). Marks (Some m.row) c.loop-i.marks.items c.mark.new.marks.items) (sym c.index-modules-i.is) c.mark.ensures.marks)
