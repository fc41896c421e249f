use Rattle.std.proofs.Common.{◌≤◌, arith}
use Rattle.edited_root.proofs.Enough.{off_within, free_more, free_found}
use Rattle.edited_root.proofs.numbering.next_free.Goals as goal

pub loop-at-preserved : goal.loop-at-preserved
loop-at-preserved c =
    let l = c.loop-at.invariant in
    let next = free_more c.args.marks.now c.args.at c.loop-at.at _ (off_within c.args.marks.now c.loop-at.at l.2) c.loop-at-test.true l.1 l.2 in
    (omega (arith, l.0), next.0, next.1)

pub returns : goal.returns
returns c = let l = c.loop-at.invariant in free_found c.args.marks.now c.args.at c.loop-at.at _ (off_within c.args.marks.now c.loop-at.at l.2) c.loop-at-test.false l.0 l.1
