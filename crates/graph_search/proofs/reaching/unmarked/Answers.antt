use Rattle.std.proofs.Common.{ℕ, List, sym, subst, arith}
use Rattle.graph_search.specs.Grouping.{AreUnmarked}
use Rattle.graph_search.proofs.Reaches.{unmarked_begin, unmarked_end}
use Rattle.graph_search.proofs.reaching.unmarked.Goals as goal

pub loop-x-init : goal.loop-x-init
loop-x-init c = subst (λ (l : List ℕ). AreUnmarked c.args.marks.now 0 l) (sym c.new-all.ensures) (unmarked_begin c.args.marks.now)

pub returns : goal.returns
returns c = unmarked_end c.args.marks.now c.loop-x.x c.loop-x.all (omega arith) c.loop-x.invariant
