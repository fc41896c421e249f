-- The component of each number.
use Rattle.std.proofs.Common.{◌≡◌, ℕ, zero, suc, ◌+◌, ◌<◌, ◌≤◌, List, length, slice_get, Some, sym, ap, ◌∙◌, inl, inr, arith, subst}
use Rattle.std.specs.Prelude.{All}
use Rattle.std.proofs.lemmas.Bool.{cases_lt}
use Rattle.graph_search.specs.Cycles.{here, Has}
use Rattle.graph_search.specs.Components.{StandsIn, Begins, AreComponents}
use Rattle.graph_search.specs.Searching.{Writes}
use Rattle.graph_search.specs.Leveling.{AreOwners}
use Rattle.graph_search.proofs.Lists.{get_small}
use Rattle.graph_search.proofs.Searches.{all_from_has}
use Rattle.graph_search.proofs.Rising.{one_at, get_there}

-- the members of the first k components have their owner
pub record AreHalfOwned (edges components : List (List ℕ)) (k : ℕ) (owners : List ℕ) : Type 0 where
  pub len : length owners ≡ length edges
  pub given : (x j : ℕ) → j < k → StandsIn components j x → slice_get owners x ≡ Some j

pub owns_begin : (edges components : List (List ℕ)) (owners : List ℕ) → length owners ≡ length edges → AreHalfOwned edges components 0 owners
owns_begin edges components owners size = record { len = size; given = λ x j below s. absurd (omega arith) }

pub members_small : (edges components : List (List ℕ)) (k : ℕ) (members view : List ℕ) (owners : List ℕ) → AreComponents edges components → slice_get components k ≡ Some members → view ≡ members → length owners ≡ length edges → All (λ x. x < length owners) view
members_small edges components k members view owners are at same size =
    subst (λ (l : List ℕ). All (λ x. x < length owners) l) (sym same) (all_from_has (λ x. x < length owners) members (λ x has. let h = are.within k x (members, at, has) in omega arith))

pub owns_step : (edges components : List (List ℕ)) (k : ℕ) (members view : List ℕ) (before after : List ℕ) → AreComponents edges components → slice_get components k ≡ Some members → view ≡ members →
    AreHalfOwned edges components k before → Writes view k before after → AreHalfOwned edges components (k + 1) after
owns_step edges components k members view before after are at same a writes = record {
  len = writes.len ∙ a.len;
  given = λ x j below s. elim (cases_lt j k) [
    | inl earlier ↦ writes.keeps x (λ has. absurd (
        let equal : k ≡ j = are.apart k j x x (members, at, subst (λ (l : List ℕ). Has l x) same has) s (here, here) in
        omega arith)) ∙ a.given x j earlier s
    | inr last ↦ (
        let equal : k ≡ j = omega arith in
        let ours : members ≡ s.0 = one_at components j members s.0 (ap (slice_get components) (sym equal) ∙ at) s.1 in
        writes.written x (subst (λ (l : List ℕ). Has l x) (sym ours ∙ sym same) s.2) ∙ ap Some equal)
  ];
}

pub owns_end : (edges components : List (List ℕ)) (k : ℕ) (owners : List ℕ) → AreComponents edges components → length components ≤ k → AreHalfOwned edges components k owners → AreOwners edges components owners
owns_end edges components k owners are all a = record {
  len = a.len;
  given = given;
  stands = λ x j at. (
      let small = get_small owners x j at in
      let w = are.whole x (omega (arith, a.len)) in
      subst (λ (i : ℕ). StandsIn components i x) (one_at owners x w.0 j (given x w.0 w.1) at) w.1);
}
  where
    given : (x j : ℕ) → StandsIn components j x → slice_get owners x ≡ Some j
    given x j s = let small = get_small components j s.0 s.1 in a.given x j (omega arith) s

-- there are no more components than numbers: the first of component k is k or above
pub few_components : (edges components : List (List ℕ)) → AreComponents edges components → length components ≤ length edges
few_components edges components are = elim (cases_lt (length edges) (length components)) [
  | inl more ↦ absurd (
      let b = first_of (length edges) more in
      let h = above (length edges) b.0 b.1 in
      let w = are.within (length edges) b.0 (b.1.0, b.1.1, (0, b.1.2)) in
      omega arith)
  | inr enough ↦ enough
]
  where
    first_of : (k : ℕ) → k < length components → (x : ℕ) × Begins components k x
    first_of k small = let m = get_there components k small in let x = get_there m.0 0 (are.each k m.0 m.1).1 in (x.0, (m.0, m.1, x.1))

    above : (k x : ℕ) → Begins components k x → k ≤ x
    above zero x b = omega arith
    above (suc k) x b =
        let small = get_small components (suc k) b.0 b.1 in
        let c = first_of k (omega arith) in
        let h = above k c.0 c.1 in
        let less = are.order k (suc k) c.0 x (omega arith) c.1 b in
        omega arith
