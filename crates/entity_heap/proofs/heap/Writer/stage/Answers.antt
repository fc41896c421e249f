use Rattle.std.proofs.Common.{◌≡◌, ℕ, ◌+◌, ◌<◌, Some, slice_get, Bool, false, true, cond, List, [], ◌∷◌, ◌++◌, length, get_or, refl, sym, ap, ◌∙◌, arith, length-set}
use Rattle.heap_core.proofs.Overlays.{within_more}
use Rattle.entity_heap.specs.declared.board.Plan.{Plan}
use Rattle.entity_heap.specs.Plans.{plan_of}
use Rattle.entity_heap.proofs.Listed.{listed_more}
use Rattle.entity_heap.proofs.heap.Writer.stage.Goals as goal

pub invariant_of-self-2-clause-listed : goal.invariant_of-self-2-clause-listed
invariant_of-self-2-clause-listed g c =
    let s = c.args.self.now in let b = get_or s.staged.items c.args.e false in
    λ k up. listed_more s.numbers.items c.list.new.numbers.items s.staged.items c.args.e b s.listed refl (c.list.ensures.numbers ∙ ap (λ (l : List ℕ). cond b l (l ++ c.args.e ∷ [])) c.in_ok-reserve.ensures.items) k (ap (λ bs. get_or bs k false) (sym c.list.ensures.staged) ∙ up)

pub invariant_of-self-2-clause-within : goal.invariant_of-self-2-clause-within
invariant_of-self-2-clause-within g c =
    let s = c.args.self.now in let b = get_or s.staged.items c.args.e false in let inside = c.requires.open.1 in let m = s.sizes.1 in let n = s.sizes.2 in let k = ap length s.states.0 in
    let l = ap length c.list.ensures.staged in let l' = length-set s.staged.items c.args.e true in let room : c.args.e < length s.staged.items = omega arith in
    λ i n at. let h = within_more s.numbers.items c.list.new.numbers.items c.args.e (length s.staged.items) b s.within room (c.list.ensures.numbers ∙ ap (λ (l : List ℕ). cond b l (l ++ c.args.e ∷ [])) c.in_ok-reserve.ensures.items) i n at in omega arith

pub invariant_of-self-2-clause-told : goal.invariant_of-self-2-clause-told
invariant_of-self-2-clause-told g c =
    let s = c.args.self.now in let e = ap (λ m. plan_of m.0) c.put_out.ensures.staged in
    ((λ j. length (e j).history) ∙ (s.told.0 ∙ ap (λ (z : Plan g.row.P.Denot). z.version + 1) (sym e)), (λ j. slice_get (e j).history (e j).version) ∙ (s.told.1 ∙ ap (λ (z : Plan g.row.P.Denot). Some z.committed) (sym e)))
