use Rattle.std.proofs.Common.{ℕ, List, slice_get, ◌≡◌, ◌+◌, arith, sym, ap, ◌∙◌, subst, true, false, length}
use Rattle.heap_core.specs.PlainLaws.{length-values, length-overlaid, none_some}
use Rattle.heap_core.proofs.Overlays.{listed_none, overlaid-none, staged_of_none, staged_of-same, stamped-bounded}
use Rattle.heap_core.specs.Meaning.{AllFit}
use Rattle.heap_core.specs.Plain.{staged_of}
use Rattle.heap_core.proofs.plain.writes.PlainHeapHeapWriter.commit.Goals as goal

pub invariant_of-self : goal.invariant_of-self
invariant_of-self g c =
    let h = c.args.self.now in let did = c.settle.ensures in let l₁ = length-values c.settle.new.committed.items in let l₂ = length-overlaid h.committed.items h.pending.items in let l₃ = ap length did.committed in
    let some = h.some_entity in let a = h.as_many in let kept = did.lengths in record {
      some_entity = omega arith;
      numbered = (let few = h.numbered in omega arith);
      as_many = (omega arith, omega arith);
      fit = subst (AllFit g.P.Program.fits) (sym did.committed) c.requires.1;
      bounded = λ e n at. stamped-bounded (h.version + 1) h.version (staged_of h.pending.items) h.versions.items (omega arith) h.bounded e n (ap (λ (l : List ℕ). slice_get l e) (sym did.versions) ∙ at);
      closed = λ _. staged_of_none c.settle.new.pending.items did.pending;
      room = λ never. absurd (let k : false ≡ true = never in cc);
      listed = listed_none c.settle.new.pending.items c.settle.new.staged.items did.pending;
      within = λ i e h. absurd (none_some e (ap (λ (l : List ℕ). slice_get l i) (sym did.staged) ∙ h));
    }

pub returns-clause-meaning : goal.returns-clause-meaning
returns-clause-meaning g c =
    let h = c.args.self.now in let did = c.settle.ensures in
    let none = overlaid-none c.settle.new.committed.items c.settle.new.pending.items did.pending in
    let bare = staged_of-same h.pending.items c.settle.new.pending.items (sym did.lengths.1) did.pending in
    λ j. record { version = h.version + 1; is_open = false; committed = did.committed j; latest = (none ∙ did.committed) j; versions = did.versions j; staged = bare j }
