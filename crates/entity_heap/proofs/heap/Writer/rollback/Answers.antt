use Rattle.std.proofs.Common.{ℕ, get_or, false, ◌≡◌, ◌+◌, length, sym, ap, ◌∙◌, arith}
use Rattle.heap_core.specs.PlainHeaps.{plain_sound}
use Rattle.entity_heap.specs.declared.board.Plan.{Plan}
use Rattle.entity_heap.specs.Plans.{plan_of}
use Rattle.entity_heap.proofs.Lists.{none_true}
use Rattle.entity_heap.proofs.Listed.{listed_none}
use Rattle.entity_heap.proofs.Parts.{unstaged_all}
use Rattle.entity_heap.proofs.heap.Writer.rollback.Goals as goal

pub roll_all-requires-clause-lists : goal.roll_all-requires-clause-lists
roll_all-requires-clause-lists g c =
    let s = c.args.self.now in let q : Plan g.row.P.Denot = plan_of s.place.me.0 in let sound = plain_sound s.plain in
    let t = ap (λ z. z.words) c.requires.from in let w = s.shape.0 in let h = c.args.heap.now.wide in
    let a = s.sizes.0 in let b = s.sizes.1 in let d = s.sizes.2 in let m = ap length s.states.0 in let k = ap length s.states.1 in let u = sound.as_many.0 in
    (s.words_known, s.staged_known, omega arith, omega arith, omega arith, omega arith)

pub roll_all-requires-clause-unstaged : goal.roll_all-requires-clause-unstaged
roll_all-requires-clause-unstaged g c =
    let s = c.args.self.now in let q : Plan g.row.P.Denot = plan_of s.place.me.0 in let sound = plain_sound s.plain in let d = s.sizes.2 in let b = s.sizes.1 in let m = ap length s.states.0 in let k = ap length s.states.1 in let u = sound.as_many.0 in let f = ap length s.staged_known in
    unstaged_all q.staged q.next q.committed (omega arith) (omega arith)
    (λ e off. ap (λ z. Rattle.std.proofs.Common.slice_get z e) s.states.1 ∙ (sound.unstaged e (ap (λ z. Rattle.std.proofs.Common.slice_get z e) (sym s.states.2) ∙ off) ∙ ap (λ z. Rattle.std.proofs.Common.slice_get z e) (sym s.states.0)))

pub roll_all-requires-clause-within : goal.roll_all-requires-clause-within
roll_all-requires-clause-within g c =
    let s = c.args.self.now in let t = ap (λ z. z.words) c.requires.from in let w = s.shape.0 in let h = c.args.heap.now.wide in let b = s.sizes.1 in
    λ i e at. let inside = s.within i e at in omega arith

pub invariant_of-self-clause-listed : goal.invariant_of-self-clause-listed
invariant_of-self-clause-listed g c = listed_none c.roll_all.new.numbers.items c.roll_all.new.staged.items (λ k. ap (λ bs. get_or bs k false) c.roll_all.ensures.staged ∙ none_true c.args.self.now.staged.items k)

pub invariant_of-self-clause-told : goal.invariant_of-self-clause-told
invariant_of-self-clause-told g c =
    let s = c.args.self.now in let e = ap (λ m. plan_of m.0) c.roll_all.ensures.rolled in
    ((λ j. length (e j).history) ∙ (s.told.0 ∙ ap (λ (z : Plan g.row.P.Denot). z.version + 1) (sym e)), (λ j. Rattle.std.proofs.Common.slice_get (e j).history (e j).version) ∙ (s.told.1 ∙ ap (λ (z : Plan g.row.P.Denot). Rattle.std.proofs.Common.Some z.committed) (sym e)))
