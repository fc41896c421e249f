use Rattle.std.proofs.Common.{[], List, sym, subst, arith}
use Rattle.chain_ends.specs.declared.walking.Mark.{Mark}
use Rattle.chain_ends.specs.Walking.{IsWalk}
use Rattle.chain_ends.proofs.Walks.{begins, all_settled}
use Rattle.chain_ends.proofs.walking.settle_all.Goals as goal

pub loop-start-init : goal.loop-start-init
loop-start-init c = record {
  walk = subst (λ (m : List Mark). IsWalk c.args.links.now m []) (sym c.in_ok-marks.ensures) (begins c.args.links.now);
  done = λ n h. absurd (omega arith);
}

pub returns-clause-begun : goal.returns-clause-begun
returns-clause-begun c = all_settled c.args.links.now c.loop-start.marks.items c.loop-start.start c.loop-start.invariant.walk.len (omega arith) c.loop-start.invariant.done
