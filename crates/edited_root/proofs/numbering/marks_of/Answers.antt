use Rattle.std.proofs.Common.{None, arith, rules}
use Rattle.edited_root.proofs.Marks.{no_marks, more_marks}
use Rattle.edited_root.proofs.Enough.{ons_none_yet, ons_more, ons_all}
use Rattle.edited_root.proofs.numbering.marks_of.Goals as goal

pub loop-i-init : goal.loop-i-init
loop-i-init c = record { marked = no_marks c.args.capacity c.in_ok-marks.marks.items (search rules); few = ons_none_yet c.args.kept.now c.args.capacity c.in_ok-marks.marks.items (search rules) }

pub loop-i-preserved : goal.loop-i-preserved
loop-i-preserved c = record {
  marked = more_marks c.args.kept.now c.loop-i.i c.args.capacity None c.loop-i.marks.items c.mark.new.marks.items (omega arith) c.loop-i.invariant.marked c.mark.ensures.marks;
  few = ons_more c.args.kept.now c.loop-i.i c.loop-i.marks.items c.mark.new.marks.items (omega arith) c.loop-i.invariant.few c.mark.ensures.few;
}

pub returns-clause-few : goal.returns-clause-few
returns-clause-few c = ons_all c.args.kept.now c.loop-i.i c.loop-i.marks.items (omega arith) c.loop-i.invariant.few
