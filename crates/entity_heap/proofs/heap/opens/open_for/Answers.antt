use Rattle.std.proofs.lemmas.List.{length-replicate}
use Rattle.entity_heap.proofs.Parts.{halves_zero}
use Rattle.std.proofs.Common.{◌-◌, ◌/◌, ◌∷◌, length, map, replicate, get_or, slice_get, false, ap, ◌∙◌, arith, rules, ◌≡◌, subst, sym}
use Rattle.std.specs.Arc.{arc_value}
use Rattle.entity_heap.specs.Starts.{AreLaid}
use Rattle.entity_heap.specs.Plans.{plan_of, first_visit}
use Rattle.entity_heap.proofs.Lists.{falses}
use Rattle.entity_heap.proofs.Listed.{listed_none}
use Rattle.entity_heap.proofs.Opens.{laid_all}
use Rattle.entity_heap.proofs.heap.opens.open_for.Goals as goal

pub lay-requires-clause-laid : goal.lay-requires-clause-laid
lay-requires-clause-laid g c =
    let r : c.of.result.value ≡ arc_value c.args.root = search rules in let a : c.of-2.result.value ≡ arc_value c.args.absent = search rules in
    laid_all c.of.result.value c.of-2.result.value c.args.lanes c.args.entities c.in_ok-slots.slots.items c.in_ok-slots.ensures.length
    (subst (λ (p : g.row.P.Denot × g.row.P.Denot). AreLaid p.0 p.1 c.args.entities c.in_ok-slots.slots.items) (λ j. (sym r j, sym a j)) c.in_ok-slots.ensures.laid)

pub invariant_of-writer-clause-versions_known : goal.invariant_of-writer-clause-versions_known
invariant_of-writer-clause-versions_known g c =
    let l = length-replicate (c.args.entities - 1) (arc_value c.args.absent) in let z = c.requires.sizes in
    let n : length (arc_value c.args.root ∷ replicate (c.args.entities - 1) (arc_value c.args.absent)) ≡ c.args.entities = omega arith in
    ap (λ m. m.versions) c.in_ok-plain.ensures ∙ (ap (λ k. replicate k 0) n ∙ (sym (halves_zero c.args.entities) ∙ ap (map (λ k. k / 2)) (sym c.in_ok-words.ensures)))

pub invariant_of-writer-clause-listed : goal.invariant_of-writer-clause-listed
invariant_of-writer-clause-listed g c = listed_none c.in_ok-numbers.numbers.items c.in_ok-staged.staged.items (λ k. ap (λ bs. get_or bs k false) c.in_ok-staged.ensures ∙ falses c.args.entities k)

pub returns-clause-lanes : goal.returns-clause-lanes
returns-clause-lanes g c = (
  ap length c.from_vec.ensures ∙ c.in_ok-made.ensures.count,
  c.in_ok-made.ensures.made,
  λ k l at. let o = c.in_ok-made.ensures.lanes k l (ap (λ ls. slice_get ls k) (sym c.from_vec.ensures) ∙ at) in (o.0, o.1 ∙ (λ j. first_visit (ap (λ m. (plan_of m.0).entities) c.in_ok-board.ensures.2 j) k)),
)
