use Rattle.std.proofs.Common.{ℕ, length, length-append, ◌+◌, ◌∷◌, [], sym, ap, ◌∙◌, arith}
use Rattle.entity_heap.specs.declared.board.Plan.{Plan}
use Rattle.entity_heap.specs.declared.board.Role.TheVariants.{Writes}
use Rattle.entity_heap.specs.Plans.{plan_of, first_visit}
use Rattle.entity_heap.proofs.Meets.{new_more}
use Rattle.entity_heap.proofs.heap.opens.make_lanes.Goals as goal

pub loop-number-preserved : goal.loop-number-preserved
loop-number-preserved g c =
    let inv = c.loop-number.invariant in let did = c.make_lane.ensures in let q : Plan g.row.P.Denot = plan_of c.args.place.now.me.0 in
    let is_p = ap (λ m. plan_of m.0) inv.writer in
    let to = did.same.1 ∙ (λ j. let z : Plan g.row.P.Denot = record (is_p j) { made = (is_p j).made + 1 } in (Writes z, [])) in
    let mm = ap (λ m. (plan_of m.0).made) to in let m = inv.made in let k = ap length c.in_ok-push.ensures.items in let k' = length-append c.loop-number.made.items (c.make_lane.result ∷ []) in let o = inv.long in
    record {
      from = did.same.0 ∙ inv.from;
      initial = did.same.0 ∙ inv.initial;
      writer = to ∙ (λ j. let z : Plan g.row.P.Denot = record q { made = sym mm j } in (Writes z, []));
      made = omega arith;
      long = omega arith;
      lanes = new_more c.args.heap.now q.entities c.loop-number.made.items _ c.make_lane.result inv.lanes did.lane.0 (did.lane.1 ∙ (λ j. first_visit (is_p j).entities (sym inv.long j))) c.in_ok-push.ensures.items;
    }
