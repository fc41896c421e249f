use Rattle.std.proofs.Common.{◌≡◌, ℕ, ◌<◌, ◌≤◌, List, length, set, get_or, slice_get, sym, ap, ◌∙◌, subst, arith, length-set}
use Rattle.std.proofs.lemmas.Option.{slice_get-get_or}
use Rattle.entity_heap.specs.declared.board.Plan.{Plan}
use Rattle.entity_heap.specs.declared.board.Visit.{Visit}
use Rattle.entity_heap.specs.Writers.{plan_in, meaning_in}
use Rattle.entity_heap.specs.Lanes.{visit_in}
use Rattle.entity_heap.proofs.Lists.{get_short}
use Rattle.entity_heap.proofs.Meets.{met_more, met_next, rest_next, lanes_set, states_same}
use Rattle.entity_heap.proofs.heap.Writer.meet_all.Goals as goal

pub meet-requires : goal.meet-requires
meet-requires g c =
    let inv = c.loop-k.invariant in let ls = c.loop-k.lanes in let k : ℕ = c.loop-k.k in let t = c.loop-k-test.true in let o = inv.long in let inside : k < length ls = omega arith in
    record { from = (inv.from ∙ c.requires.from.0, (inv.lanes k (get_or ls k c.index-lanes-k.result) (slice_get-get_or ls k c.index-lanes-k.result inside)).0) }

pub loop-k-preserved : goal.loop-k-preserved
loop-k-preserved g c =
    let inv = c.loop-k.invariant in let ls = c.loop-k.lanes in let k : ℕ = c.loop-k.k in let t = c.loop-k-test.true in let o = inv.long in let few = c.requires.from.2 in let inside : k < length ls = omega arith in
    let lane = get_or ls k c.index-lanes-k.result in let here = slice_get-get_or ls k c.index-lanes-k.result inside in let r = inv.lanes k lane here in let m = c.meet.ensures in
    let p : Plan g.row.P.Denot = plan_in c.loop-k.self in let q : Plan g.row.P.Denot = plan_in c.args.self.now in
    let wide = c.loop-k.self.shape.4 in let inside' : k < length p.met = omega arith in
    let now : (meaning_in c.loop-k.self).version ≡ q.version = sym c.loop-k.self.gate.0 ∙ inv.version in
    record {
      from = m.from.0 ∙ (sym c.requires.from.0);
      meaning = m.meaning ∙ inv.meaning;
      made = ap (λ (z : Plan g.row.P.Denot). z.made) m.plan ∙ inv.made;
      version = ap (λ (z : Plan g.row.P.Denot). z.version) m.plan ∙ inv.version;
      history = ap (λ (z : Plan g.row.P.Denot). z.history) m.plan ∙ inv.history;
      lanes = lanes_set c.args.heap.now ls k c.meet.new.lane inv.lanes m.from.1 (ap (λ (z : Visit g.row.P.Denot). z.number) m.lane ∙ r.1);
      long = length-set ls k c.meet.new.lane ∙ inv.long;
      notes = λ n h. subst (λ (z : List ℕ). q.version ≤ get_or z n 0) (sym (ap (λ (z : Plan g.row.P.Denot). z.met) m.plan ∙ (λ j. set p.met (r.1 j) (now j)))) (met_more p.met k q.version inside' inv.notes n h);
      met = met_next k q c.args.lanes.now ls lane c.meet.new.lane inv.met inv.rest here (m.lane ∙ (λ j. record (visit_in lane) { floor = now j })) (states_same p q (visit_in lane).entries inv.version inv.history m.states);
      rest = rest_next k c.args.lanes.now ls c.meet.new.lane inv.rest;
    }

pub returns-clause-lanes : goal.returns-clause-lanes
returns-clause-lanes g c =
    let inv = c.loop-k.invariant in let t = c.loop-k-test.false in let o = inv.long in
    λ n l at. let short = get_short c.args.lanes.now n l at in inv.met n l (omega arith) at

pub returns-clause-met : goal.returns-clause-met
returns-clause-met g c =
    let inv = c.loop-k.invariant in let t = c.loop-k-test.false in let o = inv.long in let v = inv.version in let m = inv.made in
    λ all n h. let note = inv.notes n (omega arith) in omega arith
