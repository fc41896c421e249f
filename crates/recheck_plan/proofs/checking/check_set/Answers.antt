use Rattle.recheck_plan.proofs.Listed.{checked_by_marks}
use Rattle.recheck_plan.proofs.checking.check_set.Goals as goal

pub returns : goal.returns
returns c =
    checked_by_marks c.args.reach.now c.args.touched.now c.args.moved.now c.in_ok-touched_marks.touched_marks.items c.in_ok-moved_marks.moved_marks.items c.as_slice.result.now c.as_slice-2.result.now c.in_ok-all.all
    c.in_ok-touched_marks.ensures c.in_ok-moved_marks.ensures c.as_slice.ensures.value c.as_slice-2.ensures.value c.in_ok-all.ensures
