use Rattle.std.proofs.Common.{◌<◌, ◌^◌, ℕ, true, List, length, replicate, sym, ap, ◌∙◌, subst}
use Rattle.std.specs.Prelude.{All}
use Rattle.graph_search.specs.Cycles.{AreWithin}
use Rattle.graph_search.proofs.reaching.reach.Goals as goal

pub closed-requires-clause-few : goal.closed-requires-clause-few
closed-requires-clause-few c = subst (λ (l : List (List ℕ)). length l < 2 ^ 32) (sym (c.as_slice.ensures.value ∙ c.in_ok-wide.ensures)) c.requires.few

pub closed-requires-clause-within : goal.closed-requires-clause-within
closed-requires-clause-within c = subst (λ (l : List (List ℕ)). AreWithin l) (sym (c.as_slice.ensures.value ∙ c.in_ok-wide.ensures)) c.requires.within

pub closed-requires-clause-starts : goal.closed-requires-clause-starts
closed-requires-clause-starts c =
    let starts = c.as_slice-2.ensures ∙ c.in_ok-first.ensures in
    let edges = c.as_slice.ensures.value ∙ c.in_ok-wide.ensures in
    subst (λ (l : List (List ℕ)). All (λ k. k < length l) c.as_slice-2.result.now) (sym edges) (subst (λ (l : List ℕ). All (λ k. k < length c.args.edges.now) l) (sym starts) c.requires.starts)

pub closed-requires-clause-opened : goal.closed-requires-clause-opened
closed-requires-clause-opened c =
    let blank = c.in_ok-opened.ensures.items_if_clones_equal (λ y e. e) in
    c.as_mut_slice.ensures.value ∙ blank ∙ ap (λ (l : List (List ℕ)). replicate (length l) true) (sym (c.as_slice.ensures.value ∙ c.in_ok-wide.ensures))
