use Rattle.std.proofs.Common.{◌≡◌, ◌-◌, ◌∷◌, ◌∙◌, arith, ap, sym, subst, length, replicate, false}
use Rattle.std.proofs.lemmas.List.{length-replicate}
use Rattle.std.specs.Arc.{arc_value}
use Rattle.heap_core.specs.Meaning.{AllFit}
use Rattle.heap_core.proofs.Overlays.{staged_of_none, listed_none, none_pends, nothing_over, nothing_staged, zeros-bounded}
use Rattle.heap_core.proofs.plain.PlainHeap.open.Goals as goal

pub invariant_of-result-clause-closed : goal.invariant_of-result-clause-closed
invariant_of-result-clause-closed g c = λ _. staged_of_none c.in_ok-pending.pending.items (none_pends c.in_ok-pending.pending.items c.args.entities c.in_ok-pending.ensures)

pub invariant_of-result-clause-fit : goal.invariant_of-result-clause-fit
invariant_of-result-clause-fit g c = subst (AllFit g.P.Program.fits) (sym c.in_ok-committed.ensures) c.requires.fit

pub invariant_of-result-clause-listed : goal.invariant_of-result-clause-listed
invariant_of-result-clause-listed g c = listed_none c.in_ok-pending.pending.items c.in_ok-staged.staged.items (none_pends c.in_ok-pending.pending.items c.args.entities c.in_ok-pending.ensures)

pub invariant_of-result-clause-bounded : goal.invariant_of-result-clause-bounded
invariant_of-result-clause-bounded g c = zeros-bounded c.in_ok-versions.versions.items c.args.entities c.in_ok-versions.ensures

pub returns : goal.returns
returns g c =
    let x = arc_value c.args.absent in let m = length-replicate (c.args.entities - 1) x in let some = c.requires.some in
    let first = arc_value c.args.root ∷ replicate (c.args.entities - 1) x in let made = c.in_ok-committed.ensures in
    let many : length first ≡ c.args.entities = omega arith in
    let none = c.in_ok-pending.ensures in let xs = c.in_ok-pending.pending.items in
    λ j. record {
      version = 0;
      is_open = false;
      committed = made j;
      latest = (nothing_over c.in_ok-committed.committed.items xs c.args.entities none ∙ made) j;
      versions = (c.in_ok-versions.ensures ∙ sym (ap (λ k. replicate k 0) many)) j;
      staged = (nothing_staged xs c.args.entities none ∙ sym (ap (λ k. replicate k false) many)) j;
    }
