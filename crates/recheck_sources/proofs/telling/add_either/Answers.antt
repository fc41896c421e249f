use Rattle.std.proofs.Common.{ℕ, ◌+◌, List, sym, subst}
use Rattle.recheck_plan.specs.Marks.{AreBelow}
use Rattle.recheck_plan.proofs.Listed.{below_skip, below_more}
use Rattle.recheck_sources.specs.Keeping.{IsOnEither}
use Rattle.recheck_sources.proofs.telling.add_either.Goals as goal

pub returns-then-not-is_either : goal.returns-then-not-is_either
returns-then-not-is_either c =
    below_skip (IsOnEither c.args.first.now c.args.second.now) c.args.x c.args.all.now (λ is. (let on = c.is_either.ensures.1 is in let off = c.if-not-is_either.true in cc)) c.requires.listed

pub returns : goal.returns
returns c =
    subst (λ (l : List ℕ). AreBelow (IsOnEither c.args.first.now c.args.second.now) (c.args.x + 1) l) (sym c.in_ok-push.ensures.ok)
    (below_more (IsOnEither c.args.first.now c.args.second.now) c.args.x c.args.all.now (c.is_either.ensures.0 c.if-not-is_either.false) c.requires.listed)
