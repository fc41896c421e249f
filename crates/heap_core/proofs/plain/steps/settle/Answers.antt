use Rattle.std.proofs.Common.{ℕ, ◌<◌, ◌≤◌, arith, sym, ap, ◌∙◌, List, length, slice_get, set, get_or, length-set}
use Rattle.std.proofs.lemmas.Option.{slice_get-get_or}
use Rattle.heap_core.specs.Meaning.{stamped, names}
use Rattle.heap_core.specs.Plain.{overlaid, staged_of}
use Rattle.heap_core.proofs.Lists.{get_index, drop_past}
use Rattle.heap_core.proofs.Overlays.{listed_rest, none_listed, overlaid-moved, stamped-moved, overlaid-none, stamped-none}
use Rattle.heap_core.proofs.plain.steps.settle.Goals as goal

pub loop-e-preserved : goal.loop-e-preserved
loop-e-preserved g c =
    let inv = c.loop-e.invariant in let xs = c.loop-e.pending.items in let cs = c.loop-e.committed.items in let ns = c.loop-e.versions.items in
    let ks = c.deref-e-items.result.now in let i : ℕ = c.loop-e.e-index in let e : ℕ = get_or ks i 0 in let inside : i < length ks = omega arith in
    let named = slice_get-get_or ks i 0 inside in
    let a = inv.many in let b = inv.many_committed in let d = inv.many_versions in
    let bound : e < length c.args.committed.now.items = c.requires.within i e (ap (λ (l : List ℕ). slice_get l i) (sym c.deref-e-items.ensures.value) ∙ named) in
    let pended = get_index xs e c.index_mut.result.now (omega arith) c.index_mut.ensures.value in
    let held = get_index cs e c.index_mut-in-loop-e.result.now (omega arith) c.index_mut-in-loop-e.ensures.value in
    let own = get_index ns e c.index_mut-in-loop-e-2.result.now (omega arith) c.index_mut-in-loop-e-2.ensures.value in
    let did = c.move_over.ensures in
    let rest : (k : ℕ) → _ = listed_rest xs ks i e named inv.rest in
    record {
      many = length-set xs e c.move_over.new.pending ∙ a;
      many_committed = length-set cs e c.move_over.new.committed ∙ b;
      many_versions = length-set ns e c.move_over.new.own ∙ d;
      latest = (λ j. overlaid (set cs e (did.committed j)) (set xs e (did.pending j))) ∙ (overlaid-moved cs xs e c.index_mut-in-loop-e.result.now c.index_mut.result.now held pended ∙ inv.latest);
      stamps = (λ j. stamped c.args.version (staged_of (set xs e (did.pending j))) (set ns e (did.own j))) ∙ (stamped-moved c.args.version xs ns e c.index_mut-in-loop-e-2.result.now c.index_mut.result.now own pended ∙ inv.stamps);
      rest = λ k h. rest k ((λ j. slice_get (staged_of (set xs e (sym did.pending j))) k) ∙ h);
    }

pub returns-clause-pending : goal.returns-clause-pending
returns-clause-pending g c =
    let ks = c.deref-e-items.result.now in let i : ℕ = c.loop-e.e-index in let past : length ks ≤ i = omega arith in
    none_listed c.loop-e.pending.items (λ k t. ap (λ (l : List ℕ). names l k) (sym (drop_past ks i past)) ∙ c.loop-e.invariant.rest k t)

pub returns-clause-committed : goal.returns-clause-committed
returns-clause-committed g c =
    let ks = c.deref-e-items.result.now in let i : ℕ = c.loop-e.e-index in let past : length ks ≤ i = omega arith in
    sym (overlaid-none c.loop-e.committed.items c.loop-e.pending.items (none_listed c.loop-e.pending.items (λ k t. ap (λ (l : List ℕ). names l k) (sym (drop_past ks i past)) ∙ c.loop-e.invariant.rest k t))) ∙ c.loop-e.invariant.latest

pub returns-clause-versions : goal.returns-clause-versions
returns-clause-versions g c =
    let ks = c.deref-e-items.result.now in let i : ℕ = c.loop-e.e-index in let past : length ks ≤ i = omega arith in
    sym (stamped-none c.args.version c.loop-e.pending.items c.loop-e.versions.items (none_listed c.loop-e.pending.items (λ k t. ap (λ (l : List ℕ). names l k) (sym (drop_past ks i past)) ∙ c.loop-e.invariant.rest k t))) ∙ c.loop-e.invariant.stamps
