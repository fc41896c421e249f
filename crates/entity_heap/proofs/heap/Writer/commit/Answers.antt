use Rattle.std.proofs.Common.{ℕ, ◌≡◌, ◌+◌, ◌/◌, ◌%◌, ◌∷◌, [], length, map, false, sym, ap, ◌∙◌, arith, length-append, slice_get, get_or, List, Some, None}
use Rattle.std.proofs.lemmas.List.{length-map}
use Rattle.heap_core.specs.Meaning.{none_of, stamped}
use Rattle.heap_core.specs.PlainHeaps.{plain_sound}
use Rattle.entity_heap.specs.declared.board.Plan.{Plan}
use Rattle.entity_heap.specs.declared.board.Role.TheVariants.{Writes}
use Rattle.entity_heap.specs.Plans.{plan_of, new_words}
use Rattle.entity_heap.proofs.Lists.{not_both, get_last, none_true}
use Rattle.entity_heap.proofs.Listed.{listed_none}
use Rattle.entity_heap.proofs.Plans.{length-new_words}
use Rattle.entity_heap.proofs.Parts.{halves_new}
use Rattle.entity_heap.proofs.heap.Writer.commit.Goals as goal

pub invariant_of-self : goal.invariant_of-self
invariant_of-self g c =
    let s = c.args.self.now in let q : Plan g.row.P.Denot = plan_of s.place.me.0 in let n : ℕ = c.commit.result in let to = c.commit.ensures.committed in
    let did = ap (λ m. plan_of m.0) to in let mean = c.commit-2.ensures.meaning in let small = c.commit.ensures.small in
    let now = c.version-version.ensures in let v : q.version ≡ c.version-version.result = s.gate.0 ∙ sym now in
    let words = (λ j. new_words (v j) (s.staged_known j) (s.words_known j)) ∙ sym c.renew.ensures.words in
    let flags = ap none_of s.staged_known ∙ sym c.renew.ensures.staged in
    let l₁ = ap length c.renew.ensures.words in let l₂ = length-new_words c.version-version.result s.staged.items s.words.items in
    let l₃ = ap length c.renew.ensures.staged in let l₄ = length-map s.staged.items (λ _. false) in
    let size₁ = s.sizes.0 in let size₂ = s.sizes.1 in let e = ap (λ (z : Plan g.row.P.Denot). z.entities) did in
    let a = length-append q.history (q.next ∷ []) in let hs = s.told.0 in
    let u = (plain_sound s.plain).as_many.0 in
    let vv = ap (λ (z : Plan g.row.P.Denot). z.version) did in
    record {
      seated = to ∙ (λ j. (Writes (sym did j), ap (λ m. m.1) s.seated j));
      shape = (ap (λ z. z.words) c.commit.ensures.same.0 ∙ (s.shape.0 ∙ ap (λ k. 3 + k) (sym e)), ap (λ (z : Plan g.row.P.Denot). z.lanes) did ∙ s.shape.1, s.shape.2, s.shape.3, ap (λ (z : Plan g.row.P.Denot). length z.met) did ∙ s.shape.4);
      gate = (
        vv ∙ (ap (λ k. k + 1) s.gate.0 ∙ sym (ap (λ z. z.version) mean)),
        ap (λ (z : Plan g.row.P.Denot). z.drained) did,
        ap (λ (z : Plan g.row.P.Denot). z.reset) did,
        ap (λ (z : Plan g.row.P.Denot). z.owed) did ∙ (let k : n % 4294967296 ≡ n = omega arith in k),
        (let r = s.plain.room c.requires.open.0 in let g₀ = s.gate.0 in omega arith),
      );
      states = (
        ap (λ (z : Plan g.row.P.Denot). z.committed) did ∙ (s.states.1 ∙ sym (ap (λ z. z.committed) mean)),
        ap (λ (z : Plan g.row.P.Denot). z.next) did ∙ (s.states.1 ∙ sym (ap (λ z. z.latest) mean)),
        ap (λ (z : Plan g.row.P.Denot). z.staged) did ∙ (ap none_of s.states.2 ∙ sym (ap (λ z. z.staged) mean)),
      );
      words_known = ap (λ (z : Plan g.row.P.Denot). z.words) did ∙ words;
      versions_known = ap (λ z. z.versions) mean
          ∙ ((λ j. stamped (sym now j + 1) ((sym s.states.2 ∙ s.staged_known) j) (s.versions_known j)) ∙ (halves_new c.version-version.result s.staged.items s.words.items ∙ ap (map (λ k. k / 2)) (sym c.renew.ensures.words)));
      staged_known = ap (λ (z : Plan g.row.P.Denot). z.staged) did ∙ flags;
      sizes = (omega arith, omega arith, ap (λ (z : Plan g.row.P.Denot). length z.committed) did ∙ (ap length s.states.1 ∙ (u ∙ (sym (ap length s.states.0) ∙ (s.sizes.2 ∙ sym e)))));
      idle = (ap (λ (z : Plan g.row.P.Denot). z.hand) did ∙ s.idle.0, ap (λ (z : Plan g.row.P.Denot). z.fill) did ∙ s.idle.1);
      told = ((λ j. length (did j).history) ∙ (a ∙ (let k : length q.history + 1 ≡ q.version + 1 + 1 = omega arith in k) ∙ ap (λ (z : Plan g.row.P.Denot). z.version + 1) (sym did)), (λ j. slice_get (did j).history (vv j)) ∙ (get_last q.history q.next (q.version + 1) hs ∙ ap (λ (z : Plan g.row.P.Denot). Some z.committed) (sym did)));
      ready = λ up. not_both c.commit-2.new.self.is_open up (ap (λ z. z.is_open) mean);
      listed = listed_none c.renew.new.numbers.items c.renew.new.staged.items (λ k. ap (λ bs. get_or bs k false) c.renew.ensures.staged ∙ none_true s.staged.items k);
      within = λ i e at. absurd (let z : None ≡ Some e = ap (λ (l : List ℕ). slice_get l i) (sym c.renew.ensures.numbers) ∙ at in cc);
      order = (λ no. no, λ _. (let m = ap (λ z. z.version) mean in omega arith));
    }
