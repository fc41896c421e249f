use Rattle.std.proofs.Common.{ℕ, ◌<◌, ◌≤◌, arith, ap, ◌∙◌, sym, None, List, length, length-set, get_or}
use Rattle.std.proofs.lemmas.Option.{slice_get-get_or}
use Rattle.heap_core.specs.Meaning.{names}
use Rattle.heap_core.proofs.Lists.{drop_past}
use Rattle.heap_core.proofs.Overlays.{listed_rest, none_listed}
use Rattle.heap_core.proofs.plain.steps.clear.Goals as goal

pub loop-e-preserved : goal.loop-e-preserved
loop-e-preserved g c =
    let xs = c.loop-e.pending.items in let ks = c.deref-e-items.result.now in let i : ℕ = c.loop-e.e-index in let e : ℕ = get_or ks i 0 in let here : i < length ks = omega arith in record {
      many = length-set xs e None ∙ c.loop-e.invariant.many;
      rest = listed_rest xs ks i e (slice_get-get_or ks i 0 here) c.loop-e.invariant.rest;
    }

pub returns-clause-pending : goal.returns-clause-pending
returns-clause-pending g c =
    let ks = c.deref-e-items.result.now in let i : ℕ = c.loop-e.e-index in let past : length ks ≤ i = omega arith in
    none_listed c.loop-e.pending.items (λ k t. ap (λ (l : List ℕ). names l k) (sym (drop_past ks i past)) ∙ c.loop-e.invariant.rest k t)
