-- The lists that are components, one after another.
use Rattle.std.proofs.Common.{◌≡◌, ℕ, ◌+◌, ◌<◌, ◌≤◌, List, [], ◌∷◌, ◌++◌, length, slice_get, Some, sym, ap, ◌∙◌, inl, inr, arith, subst}
use Rattle.std.proofs.lemmas.Bool.{cases_lt}
use native.Mathlib.Decide.{ℕ_discrete}
use Rattle.graph_search.specs.Cycles.{Edge}
use Rattle.graph_search.specs.Components.{AreMutual, StandsIn, Begins, AreComponents}
use Rattle.graph_search.specs.Searching.{AreClasses}
use Rattle.graph_search.specs.Grouping.{IsFirstOf, AreTaken, AreSorted}
use Rattle.graph_search.proofs.Lists.{none_some, get_small, get-front}
use Rattle.graph_search.proofs.Searches.{joined}
use Rattle.graph_search.proofs.Rising.{place_split, get_last, get_there, one_at}

pub takes_begin : (classes : List ℕ) (lists : List (List ℕ)) → AreTaken classes lists 0 []
takes_begin classes lists = record {
  sound = λ k members at. none_some members at;
  complete = λ x members below first. absurd (omega arith);
  order = λ k j x y less a b. none_some a.0 a.1;
}

module _ (classes : List ℕ) (lists : List (List ℕ)) (i : ℕ) (members : List ℕ) (all : List (List ℕ)) where
  -- the list of a number is one
  one_first : (x : ℕ) (others : List ℕ) (c : ℕ) → slice_get classes i ≡ Some c → slice_get lists c ≡ Some members → IsFirstOf classes lists x others → x ≡ i → others ≡ members
  one_first x others c class list first same =
      let c_same : first.0 ≡ c = one_at classes i first.0 c (ap (slice_get classes) (sym same) ∙ first.1) class in
      one_at lists c others members (ap (slice_get lists) (sym c_same) ∙ first.2) list

  pub takes_skip : (c : ℕ) → slice_get classes i ≡ Some c → slice_get lists c ≡ Some members → ¬ (slice_get members 0 ≡ Some i) → AreTaken classes lists i all → AreTaken classes lists (i + 1) all
  takes_skip c class list not_first a = record {
    sound = λ k others at. (let r = a.sound k others at in (r.0, omega arith, r.2));
    complete = λ x others below first. elim (cases_lt x i) [
      | inl earlier ↦ a.complete x others earlier first
      | inr last ↦ absurd (
          let same : x ≡ i = omega arith in
          let equal = one_first x others c class list first same in
          not_first (ap (λ (l : List ℕ). slice_get l 0) (sym equal) ∙ first.3 ∙ ap Some same))
    ];
    order = a.order;
  }

  pub takes_one : IsFirstOf classes lists i members → AreTaken classes lists i all → AreTaken classes lists (i + 1) (all ++ members ∷ [])
  takes_one this a = record {
    sound = λ k others at. elim (place_split all members k others at) [
      | inl old ↦ (let r = a.sound k others old in (r.0, omega arith, r.2))
      | inr last ↦ (i, omega arith, subst (λ (l : List ℕ). IsFirstOf classes lists i l) (sym last.0) this)
    ];
    complete = λ x others below first. elim (cases_lt x i) [
      | inl earlier ↦ (let r = a.complete x others earlier first in (r.0, get-front all (members ∷ []) r.0 others r.1))
      | inr last ↦ (
          let same : x ≡ i = omega arith in
          (length all, get_last all members ∙ ap Some (sym (one_first x others this.0 this.1 this.2 first same))))
    ];
    order = λ k j x y less p q. elim (place_split all members j q.0 q.1) [
      | inl q_old ↦ elim (place_split all members k p.0 p.1) [
        | inl p_old ↦ a.order k j x y less (p.0, p_old, p.2) (q.0, q_old, q.2)
        | inr p_last ↦ absurd (let small = get_small all j q.0 q_old in let at = p_last.1 in omega arith)
      ]
      | inr q_last ↦ (
          let y_is : y ≡ i = one_at members 0 y i (ap (λ (l : List ℕ). slice_get l 0) (sym q_last.0) ∙ q.2) this.3 in
          elim (place_split all members k p.0 p.1) [
            | inl p_old ↦ (
                let r = a.sound k p.0 p_old in
                let x_is : x ≡ r.0 = one_at p.0 0 x r.0 p.2 r.2.3 in
                let small = r.1 in
                omega arith)
            | inr p_last ↦ absurd (let at = q_last.1 in let there = p_last.1 in omega arith)
          ])
    ];
  }

pub takes_end : (classes : List ℕ) (lists : List (List ℕ)) (i : ℕ) (all : List (List ℕ)) → length classes ≤ i → AreTaken classes lists i all → AreTaken classes lists (length classes) all
takes_end classes lists i all enough a = record {
  sound = λ k members at. (let r = a.sound k members at in (r.0, get_small classes r.0 r.2.0 r.2.1, r.2));
  complete = λ x members below first. a.complete x members (omega arith) first;
  order = a.order;
}

module _ (edges : List (List ℕ)) (classes : List ℕ) (lists out : List (List ℕ)) (n : ℕ) (classed : AreClasses edges classes) (sorted : AreSorted classes n lists) (taken : AreTaken classes lists (length classes) out) where
  -- the list of which x is one is the list of its class
  class_of : (k x : ℕ) (s : StandsIn out k x) → (c : ℕ) × (slice_get classes x ≡ Some c) × (slice_get lists c ≡ Some s.0)
  class_of k x s = let r = taken.sound k s.0 s.1 in let f = r.2 in (f.0, sorted.only f.0 x (s.0, f.2, s.2), f.2)

  has_one : (k : ℕ) (members : List ℕ) → slice_get out k ≡ Some members → 0 < length members
  has_one k members at = let r = taken.sound k members at in get_small members 0 r.0 r.2.3

  stands : (x : ℕ) → x < length edges → (k : ℕ) × StandsIn out k x
  stands x small =
      let c = get_there classes x (omega (arith, classed.len)) in
      let s = sorted.there x c.0 c.1 in
      let least = get_there s.0 0 (let h = get_small s.0 s.2.0 x s.2.1 in omega arith) in
      let class = sorted.only c.0 least.0 (s.0, s.1, (0, least.1)) in
      let k = taken.complete least.0 s.0 (get_small classes least.0 c.0 class) (c.0, class, s.1, least.1) in
      (k.0, (s.0, k.1, s.2))

  one_class : (k x y : ℕ) → StandsIn out k x → StandsIn out k y → AreMutual edges x y
  one_class k x y s t =
      let a = class_of k x s in
      let same : s.0 ≡ t.0 = one_at out k s.0 t.0 s.1 t.1 in
      let y_class : slice_get classes y ≡ Some a.0 = sorted.only a.0 y (t.0, a.2 ∙ ap Some same, t.2) in
      let there = classed.sound x a.0 a.1 in
      let again = classed.sound y a.0 y_class in
      (joined (Edge edges) there.0 again.1, joined (Edge edges) again.0 there.1)

  one_place : (k j x y : ℕ) → StandsIn out k x → StandsIn out j y → AreMutual edges x y → k ≡ j
  one_place k j x y s t m =
      let a = class_of k x s in
      let b = class_of j y t in
      let c_same : a.0 ≡ b.0 = one_at classes y a.0 b.0 (classed.complete x y a.0 a.1 m) b.1 in
      let same : s.0 ≡ t.0 = one_at lists b.0 s.0 t.0 (ap (slice_get lists) (sym c_same) ∙ a.2) b.2 in
      let first = get_there s.0 0 (has_one k s.0 s.1) in
      let p : Begins out k first.0 = (s.0, s.1, first.1) in
      let q : Begins out j first.0 = (t.0, t.1, ap (λ (l : List ℕ). slice_get l 0) (sym same) ∙ first.1) in
      elim (cases_lt k j) [
        | inl less ↦ absurd (let h = taken.order k j first.0 first.0 less p q in omega arith)
        | inr more ↦ elim (ℕ_discrete k j) [ yes equal ↦ equal | no other ↦ absurd (let h = taken.order j k first.0 first.0 (omega arith) q p in omega arith) ]
      ]

  pub are_components : AreComponents edges out
  are_components = record {
    each = λ k members at. (let r = taken.sound k members at in (sorted.rising r.2.0 members r.2.2, has_one k members at));
    order = taken.order;
    whole = stands;
    within = λ k x s. (let a = class_of k x s in let small = get_small classes x a.0 a.1 in omega (arith, classed.len));
    together = one_class;
    apart = one_place;
  }
