-- Adding edges, one after another.
use Rattle.std.proofs.Common.{◌≡◌, ℕ, zero, suc, ◌+◌, ◌<◌, ◌≤◌, ◌⊎◌, List, [], ◌∷◌, ◌++◌, length, set, get_or, slice_get, take, replicate, Some, refl, sym, ap, ◌∙◌, inl, inr, arith, subst}
use native.Mathlib.Decide.{ℕ_discrete}
use Rattle.std.proofs.lemmas.Bool.{cases_lt}
use Rattle.graph_search.specs.Cycles.{Has, Edge}
use Rattle.graph_search.specs.Searching.{Adds, AreReversed}
use Rattle.graph_search.proofs.Lists.{none_some, get-set_here, get-set_else, length-set_here, get-front, has-last, last-split, only_has, has_none, has_more, get_small, earlier, this_one, take_whole}

pub adds_one : (back after : List (List ℕ)) (x y : ℕ) (was now : List ℕ) → y < length back → slice_get back y ≡ Some was → now ≡ was ++ x ∷ [] → after ≡ set back y now → Adds x (y ∷ []) back after
adds_one back after x y was now small at_y is whole = subst (λ (l : List (List ℕ)). Adds x (y ∷ []) back l) (sym whole) (record {
  len = length-set_here back y now;
  keeps = λ u v edge. elim (ℕ_discrete u y) [
    | yes same ↦ (now, ap (slice_get (set back y now)) same ∙ get-set_here back y now small, old_has u v same edge)
    | no other ↦ (edge.0, get-set_else back y u now other ∙ edge.1, edge.2)
  ];
  adds = λ z has. (now, ap (slice_get (set back y now)) (only_has y z has) ∙ get-set_here back y now small, subst (λ (l : List ℕ). Has l x) (sym is) (has-last was x));
  fresh = λ u v edge. elim (ℕ_discrete u y) [
    | yes same ↦ new_edge u v same edge
    | no other ↦ inl (edge.0, sym (get-set_else back y u now other) ∙ edge.1, edge.2)
  ];
})
  where
    old_has : (u v : ℕ) → u ≡ y → Edge back u v → Has now v
    old_has u v same edge =
        let both : Some edge.0 ≡ Some was = sym edge.1 ∙ ap (slice_get back) same ∙ at_y in
        let ours : edge.0 ≡ was = cc in
        (edge.2.0, subst (λ (l : List ℕ). slice_get l edge.2.0 ≡ Some v) (sym is) (get-front was (x ∷ []) edge.2.0 v (subst (λ (l : List ℕ). slice_get l edge.2.0 ≡ Some v) ours edge.2.1)))

    new_edge : (u v : ℕ) → u ≡ y → Edge (set back y now) u v → Edge back u v ⊎ (Has (y ∷ []) u × (v ≡ x))
    new_edge u v same edge =
        let both : Some edge.0 ≡ Some now = sym edge.1 ∙ ap (slice_get (set back y now)) same ∙ get-set_here back y now small in
        let ours : edge.0 ≡ was ++ x ∷ [] = (let e : edge.0 ≡ now = cc in e ∙ is) in
        elim (last-split was x edge.2.0 v (subst (λ (l : List ℕ). slice_get l edge.2.0 ≡ Some v) ours edge.2.1)) [
          | inl old ↦ inl (was, ap (slice_get back) same ∙ at_y, old)
          | inr last ↦ inr ((0, ap Some (sym same)), last)
        ]

pub adds_none : (x : ℕ) (back : List (List ℕ)) → Adds x [] back back
adds_none x back = record { len = refl; keeps = λ u v edge. edge; adds = λ y has. absurd (has_none y has); fresh = λ u v edge. inl edge }

pub adds_next : (x : ℕ) (ys : List ℕ) (i y : ℕ) {before middle after : List (List ℕ)} → y ≡ get_or ys i 0 → i < length ys → Adds x (take i ys) before middle → Adds x (y ∷ []) middle after → Adds x (take (i + 1) ys) before after
adds_next x ys i y {before} {middle} {after} is within a b = record {
  len = b.len ∙ a.len;
  keeps = λ u v edge. b.keeps u v (a.keeps u v edge);
  adds = λ z has. elim (has_more ys i z has) [ inl old ↦ b.keeps z x (a.adds z old) | inr same ↦ b.adds z (0, ap Some (is ∙ same)) ];
  fresh = λ u v edge. elim (b.fresh u v edge) [
    | inl old ↦ elim (a.fresh u v old) [ inl older ↦ inl older | inr new ↦ inr (earlier ys i u new.0, new.1) ]
    | inr new ↦ inr (this_one ys i y u is within new.0, new.1)
  ];
}

pub adds_all : (x : ℕ) (ys : List ℕ) (n : ℕ) {before after : List (List ℕ)} → length ys ≤ n → Adds x (take n ys) before after → Adds x ys before after
adds_all x ys n {before} {after} all a = subst (λ (l : List ℕ). Adds x l before after) (take_whole ys n all) a

-- the first i have their edges the other way round
pub record HalfReversed (edges : List (List ℕ)) (i : ℕ) (back : List (List ℕ)) : Type 0 where
  pub len : length back ≡ length edges
  pub there : (x y : ℕ) → x < i → Edge edges x y → Edge back y x
  pub again : (x y : ℕ) → Edge back y x → Edge edges x y

no_edge : (n x y : ℕ) → Edge (replicate n []) x y → ⊥
no_edge zero x y edge = none_some edge.0 edge.1
no_edge (suc n) zero y edge = let both : Some [] ≡ Some edge.0 = edge.1 in let empty : edge.0 ≡ [] = cc in has_none y (subst (λ (l : List ℕ). Has l y) empty edge.2)
no_edge (suc n) (suc x) y edge = no_edge n x y edge

pub reverse_begins : (edges back : List (List ℕ)) → back ≡ replicate (length edges) [] → length back ≡ length edges → HalfReversed edges 0 back
reverse_begins edges back is size = record {
  len = size;
  there = λ x y below edge. absurd (omega arith);
  again = λ x y edge. absurd (no_edge (length edges) y x (subst (λ (l : List (List ℕ)). Edge l y x) is edge));
}

pub reverse_step : (edges : List (List ℕ)) (i : ℕ) (ys : List ℕ) {back after : List (List ℕ)} → slice_get edges i ≡ Some ys → HalfReversed edges i back → Adds i ys back after → HalfReversed edges (i + 1) after
reverse_step edges i ys {back} {after} is a b = record {
  len = b.len ∙ a.len;
  there = λ x y below edge. elim (cases_lt x i) [ inl old ↦ b.keeps y x (a.there x y old edge) | inr new ↦ this x y (omega arith) edge ];
  again = λ x y edge. elim (b.fresh y x edge) [ inl old ↦ a.again x y old | inr new ↦ (ys, ap (slice_get edges) new.1 ∙ is, new.0) ];
}
  where
    this : (x y : ℕ) → x ≡ i → Edge edges x y → Edge after y x
    this x y same edge =
        let both : Some edge.0 ≡ Some ys = sym edge.1 ∙ ap (slice_get edges) same ∙ is in
        let ours : edge.0 ≡ ys = cc in
        subst (λ (z : ℕ). Edge after y z) (sym same) (b.adds y (subst (λ (l : List ℕ). Has l y) ours edge.2))

pub reverse_ends : (edges back : List (List ℕ)) (i : ℕ) → length edges ≤ i → HalfReversed edges i back → AreReversed edges back
reverse_ends edges back i all a = record {
  len = a.len;
  there = λ x y edge. (let small = get_small edges x edge.0 edge.1 in a.there x y (omega arith) edge);
  again = a.again;
}
