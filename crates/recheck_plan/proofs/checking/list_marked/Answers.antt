use Rattle.std.proofs.Common.{ℕ, ◌+◌, List, sym, subst}
use Rattle.recheck_plan.specs.Marks.{IsMarked, AreBelow}
use Rattle.recheck_plan.proofs.Listed.{below_skip, below_more}
use Rattle.recheck_plan.proofs.checking.list_marked.Goals as goal

pub returns-then-not-is_marked : goal.returns-then-not-is_marked
returns-then-not-is_marked c =
    below_skip (IsMarked c.args.reach.now c.args.touched.now c.args.moved.now) c.args.x c.args.all.now (λ is. (let on = c.is_marked.ensures.1 is in let off = c.if-not-is_marked.true in cc)) c.requires.listed

pub returns : goal.returns
returns c =
    subst (λ (l : List ℕ). AreBelow (IsMarked c.args.reach.now c.args.touched.now c.args.moved.now) (c.args.x + 1) l) (sym c.in_ok-push.ensures.ok)
    (below_more (IsMarked c.args.reach.now c.args.touched.now c.args.moved.now) c.args.x c.args.all.now (c.is_marked.ensures.0 c.if-not-is_marked.false) c.requires.listed)
