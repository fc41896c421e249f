use Rattle.std.proofs.Common.{refl, arith}
use Rattle.edited_root.proofs.Marks.{marks_past, marks_one, ons_past, ons_one}
use Rattle.edited_root.proofs.numbering.mark.Goals as goal

pub returns-then-row-len-clause-marks : goal.returns-then-row-len-clause-marks
returns-then-row-len-clause-marks c = marks_one c.args.row c.in-Some.row c.args.marks.now.items _ c.in-Some.is (omega arith) refl

pub returns-then-row-len-clause-few : goal.returns-then-row-len-clause-few
returns-then-row-len-clause-few c = ons_one c.args.row c.in-Some.row c.args.marks.now.items _ c.in-Some.is refl

pub returns-else-row-len-clause-marks : goal.returns-else-row-len-clause-marks
returns-else-row-len-clause-marks c = marks_past c.args.row c.in-Some.row c.args.marks.now.items _ c.in-Some.is (omega arith) refl
