use Rattle.std.proofs.Common.{reverse, arith}
use Rattle.fact_ways.proofs.Gathers.{gathers_none, gathers_last, last_fits, gathered_leads, none_left}
use Rattle.fact_ways.proofs.nested.meet_arms.Goals as goal

pub loop-way-init : goal.loop-way-init
loop-way-init c = gathers_none (reverse c.args.arms.items) c.args.facts.now c.in_ok-gathered.gathered c.requires c.in_ok-gathered.ensures.gathered c.in_ok-gathered.ensures.facts

pub gather_way-requires : goal.gather_way-requires
gather_way-requires c = record {
  fits = last_fits (reverse c.args.arms.items) c.args.facts.now c.in-Some.way c.loop-way.arms.items c.pop.new.self.items c.loop-way.gathered c.loop-way.facts c.loop-way.invariant c.in-Some.ensures.items;
  gathered = c.loop-way.invariant.gathered;
}

pub loop-way-preserved : goal.loop-way-preserved
loop-way-preserved c =
    let met = c.in_ok-gathered-2.ensures in
    gathers_last (reverse c.args.arms.items) c.args.facts.now c.in-Some.way c.loop-way.arms.items c.pop.new.self.items c.loop-way.gathered c.in_ok-gathered-2.gathered c.loop-way.facts c.gather_way.new.facts c.loop-way.invariant c.in-Some.ensures.items met.facts
    met.gathered met.leads

pub make_gathered-requires : goal.make_gathered-requires
make_gathered-requires c = c.loop-way.invariant.gathered

pub returns-clause-leads : goal.returns-clause-leads
returns-clause-leads c =
    gathered_leads c.make_gathered.result (reverse c.args.arms.items) c.args.facts.now c.loop-way.arms.items c.loop-way.gathered c.loop-way.facts c.make_gathered.new.self c.loop-way.invariant
    (none_left c.loop-way.arms.items (omega (arith, c.in_default.ensures.cases.0, c.loop-way.arms.ok.0))) c.make_gathered.ensures.marks
