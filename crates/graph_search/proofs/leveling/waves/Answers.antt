use Rattle.std.proofs.Common.{◌≡◌, ℕ, ◌+◌, ◌<◌, List, length, sym, ap, ◌∙◌, arith, subst}
use Rattle.std.specs.Prelude.{All}
use Rattle.graph_search.specs.Cycles.{Has}
use Rattle.graph_search.specs.Waves.{AreWaves}
use Rattle.graph_search.specs.Grouping.{AreSorted}
use Rattle.graph_search.specs.Leveling.{AreOwners, AreLevels}
use Rattle.graph_search.proofs.Owns.{few_components}
use Rattle.graph_search.proofs.Peels.{are_waves, levels_small}
use Rattle.graph_search.proofs.leveling.waves.Goals as goal

pub height-requires : goal.height-requires
height-requires c =
    let edges = c.as_slice-2.ensures.value ∙ c.in_ok-wide.ensures in
    let members = c.as_slice-3.ensures.value ∙ c.in_ok-members.ensures ∙ c.as_slice.ensures in
    let owns = subst (λ (l : List (List ℕ)). AreOwners l c.args.components.now c.in_ok-owners.owners.items) edges (subst (λ (l : List (List ℕ)). AreOwners c.as_slice-2.result.now l c.in_ok-owners.owners.items) members c.in_ok-owners.ensures) in
    let are = subst (λ (l : List (List ℕ)). AreLevels l c.in_ok-owners.owners.items (length c.args.components.now) c.in_ok-levels.levels.items) (c.as_slice-4.ensures.value ∙ c.in_ok-wide.ensures)
    (subst (λ (l : List ℕ). AreLevels c.as_slice-4.result.now l (length c.args.components.now) c.in_ok-levels.levels.items) c.as_slice-5.ensures.value
    (subst (λ (n : ℕ). AreLevels c.as_slice-4.result.now c.as_slice-5.result.now n c.in_ok-levels.levels.items) c.len.ensures c.in_ok-levels.ensures)) in
    subst (λ (l : List ℕ). All (λ w. w < length l) l) (sym c.as_slice-7.ensures.value) (levels_small c.args.edges.now c.args.components.now c.in_ok-owners.owners.items c.in_ok-levels.levels.items c.requires.components owns are)

pub sorted-requires-clause-few : goal.sorted-requires-clause-few
sorted-requires-clause-few c =
    let size = ap length c.as_slice-6.ensures.value ∙ c.in_ok-levels.ensures.low.len ∙ c.len.ensures in
    let few = few_components c.args.edges.now c.args.components.now c.requires.components in
    omega arith

pub returns : goal.returns
returns c =
    let edges = c.as_slice-2.ensures.value ∙ c.in_ok-wide.ensures in
    let members = c.as_slice-3.ensures.value ∙ c.in_ok-members.ensures ∙ c.as_slice.ensures in
    let owns = subst (λ (l : List (List ℕ)). AreOwners l c.args.components.now c.in_ok-owners.owners.items) edges (subst (λ (l : List (List ℕ)). AreOwners c.as_slice-2.result.now l c.in_ok-owners.owners.items) members c.in_ok-owners.ensures) in
    let are = subst (λ (l : List (List ℕ)). AreLevels l c.in_ok-owners.owners.items (length c.args.components.now) c.in_ok-levels.levels.items) (c.as_slice-4.ensures.value ∙ c.in_ok-wide.ensures)
    (subst (λ (l : List ℕ). AreLevels c.as_slice-4.result.now l (length c.args.components.now) c.in_ok-levels.levels.items) c.as_slice-5.ensures.value
    (subst (λ (n : ℕ). AreLevels c.as_slice-4.result.now c.as_slice-5.result.now n c.in_ok-levels.levels.items) c.len.ensures c.in_ok-levels.ensures)) in
    let sorted = subst (λ (l : List ℕ). AreSorted l c.height.result c.in_ok-lists.lists.items) c.as_slice-6.ensures.value c.in_ok-lists.ensures in
    let highest = subst (λ (l : List ℕ). (w : ℕ) → w + 1 ≡ c.height.result → Has l w) c.as_slice-7.ensures.value c.height.ensures.there in
    subst (λ (l : List (List ℕ)). AreWaves c.args.edges.now c.args.components.now l) (sym c.from_vec.ensures)
    (are_waves c.args.edges.now c.args.components.now c.in_ok-owners.owners.items c.in_ok-levels.levels.items c.height.result c.in_ok-lists.lists.items owns are highest sorted)
