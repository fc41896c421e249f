use Rattle.std.proofs.Common.{ℕ, ◌+◌, List, true, false, sym, subst}
use Rattle.graph_search.specs.Grouping.{AreUnmarked}
use Rattle.graph_search.proofs.Lists.{get_index}
use Rattle.graph_search.proofs.Reaches.{unmarked_skip, unmarked_more}
use Rattle.graph_search.proofs.reaching.list_unmarked.Goals as goal

pub returns-then-marks-x : goal.returns-then-marks-x
returns-then-marks-x c = unmarked_skip c.args.marks.now c.args.x c.args.all.now (get_index c.args.marks.now c.args.x false true c.requires.small c.if-marks-x.true) c.requires.listed

pub returns : goal.returns
returns c =
    subst (λ (l : List ℕ). AreUnmarked c.args.marks.now (c.args.x + 1) l) (sym c.in_ok-push.ensures.ok)
    (unmarked_more c.args.marks.now c.args.x c.args.all.now (get_index c.args.marks.now c.args.x false false c.requires.small c.if-marks-x.false) c.requires.listed)
