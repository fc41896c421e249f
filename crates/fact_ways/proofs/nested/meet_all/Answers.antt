use Rattle.std.proofs.Common.{List, reverse, subst}
use Rattle.fact_ways.specs.declared.fork.Fork.{Fork}
use Rattle.fact_ways.proofs.Nests.{Meets, meets_none, meets_one, reverse_last}
use Rattle.fact_ways.proofs.nested.meet_all.Goals as goal

pub loop-way-init : goal.loop-way-init
loop-way-init c = meets_none (reverse c.args.left.items) c.args.last c.args.facts.now c.requires.last c.requires.left

pub loop-way-preserved : goal.loop-way-preserved
loop-way-preserved c =
    let all = reverse c.args.left.items in
    let first = c.args.facts.now in
    meets_one all c.args.last first c.in-Some.way (reverse c.pop.new.self.items) c.loop-way.last c.in_ok-last.last c.loop-way.facts c.meet_way.new.facts
    (subst (λ (l : List Fork). Meets all c.args.last first l c.loop-way.last c.loop-way.facts) (reverse_last c.loop-way.left.items c.pop.new.self.items c.in-Some.way c.in-Some.ensures.items) c.loop-way.invariant)
    c.in_ok-last.ensures.facts c.in_ok-last.ensures.arm c.in_ok-last.ensures.leads
