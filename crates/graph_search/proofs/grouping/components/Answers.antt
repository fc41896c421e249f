use Rattle.std.proofs.Common.{◌<◌, ℕ, List, length, sym, ap, ◌∙◌, subst}
use Rattle.std.specs.Prelude.{All}
use Rattle.graph_search.specs.Searching.{AreClasses}
use Rattle.graph_search.specs.Grouping.{AreSorted, AreTaken}
use Rattle.graph_search.proofs.CycleLemmas.{classes_small}
use Rattle.graph_search.proofs.Takes.{are_components}
use Rattle.graph_search.proofs.grouping.components.Goals as goal

pub sorted-requires-clause-below : goal.sorted-requires-clause-below
sorted-requires-clause-below c =
    let classed = subst (λ (l : List (List ℕ)). AreClasses l c.in_ok-classes.classes.items) (c.as_slice.ensures.value ∙ c.in_ok-wide.ensures) c.in_ok-classes.ensures in
    subst (λ (l : List ℕ). All (λ k. k < length c.args.edges.now) l) (sym c.as_slice-2.ensures.value) (classes_small c.args.edges.now c.in_ok-classes.classes.items classed)

pub take_lists-requires : goal.take_lists-requires
take_lists-requires c =
    let classed = subst (λ (l : List (List ℕ)). AreClasses l c.in_ok-classes.classes.items) (c.as_slice.ensures.value ∙ c.in_ok-wide.ensures) c.in_ok-classes.ensures in
    let small = classes_small c.args.edges.now c.in_ok-classes.classes.items classed in
    let size = ap length c.as_slice-4.ensures.value ∙ c.in_ok-lists.ensures.len in
    subst (λ (l : List ℕ). All (λ k. k < length c.as_slice-4.result.now) l) (sym c.as_slice-3.ensures.value) (subst (λ (n : ℕ). All (λ k. k < n) c.in_ok-classes.classes.items) (sym size) small)

pub returns : goal.returns
returns c =
    let classed = subst (λ (l : List (List ℕ)). AreClasses l c.in_ok-classes.classes.items) (c.as_slice.ensures.value ∙ c.in_ok-wide.ensures) c.in_ok-classes.ensures in
    let sorted = subst (λ (l : List ℕ). AreSorted l (length c.args.edges.now) c.in_ok-lists.lists.items) c.as_slice-2.ensures.value c.in_ok-lists.ensures in
    let taken = subst (λ (l : List ℕ). AreTaken l c.in_ok-lists.lists.items (length l) c.in_ok-all.all) c.as_slice-3.ensures.value
    (subst (λ (l : List (List ℕ)). AreTaken c.as_slice-3.result.now l (length c.as_slice-3.result.now) c.in_ok-all.all) c.as_slice-4.ensures.value c.in_ok-all.ensures) in
    are_components c.args.edges.now c.in_ok-classes.classes.items c.in_ok-lists.lists.items c.in_ok-all.all (length c.args.edges.now) classed sorted taken
