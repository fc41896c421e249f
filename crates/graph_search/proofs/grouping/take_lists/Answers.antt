use Rattle.std.proofs.Common.{ℕ, List, sym, subst, arith}
use Rattle.graph_search.specs.Grouping.{AreTaken}
use Rattle.graph_search.proofs.Takes.{takes_begin, takes_end}
use Rattle.graph_search.proofs.grouping.take_lists.Goals as goal

pub loop-x-init : goal.loop-x-init
loop-x-init c = subst (λ (l : List (List ℕ)). AreTaken c.args.classes.now c.args.lists.now 0 l) (sym c.new-all.ensures) (takes_begin c.args.classes.now c.args.lists.now)

pub returns : goal.returns
returns c = takes_end c.args.classes.now c.args.lists.now c.loop-x.x c.loop-x.all (omega arith) c.loop-x.invariant
