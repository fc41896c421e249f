-- A number lies on a cycle exactly where an edge of it stays in its class.
use Rattle.std.proofs.Common.{◌≡◌, ℕ, ◌+◌, ◌<◌, ◌≤◌, Bool, true, List, [], ◌∷◌, ◌++◌, length, get_or, slice_get, take, Some, refl, sym, ap, ◌∙◌, inl, inr, arith, subst}
use Rattle.std.specs.Prelude.{IsTrue, All, ◌↔◌}
use Rattle.std.proofs.lemmas.Bool.{cases_lt}
use Rattle.graph_search.specs.Cycles.{here, along, Has, Edge, IsOn, IsOnCycle, AreWithin, AreCycleMarks}
use Rattle.graph_search.specs.Searching.{AreClasses}
use Rattle.graph_search.proofs.Lists.{get_index, get_small, get-front, has_more, take_whole}
use Rattle.graph_search.proofs.Searches.{joined, all_from_has}
use Rattle.graph_search.proofs.Pivots.{mutual_small}
use Rattle.graph_search.proofs.Rising.{one_at, place_split, get_last}
use Rattle.graph_search.proofs.Reaches.{edge_small}

pub classes_small : (edges : List (List ℕ)) (classes : List ℕ) → AreClasses edges classes → All (λ c. c < length edges) classes
classes_small edges classes classed = all_from_has (λ c. c < length edges) classes (λ c has.
    let small = get_small classes has.0 c has.1 in
    mutual_small edges has.0 c (classed.sound has.0 c has.1) (omega (arith, classed.len)))

pub on_cycle : (edges : List (List ℕ)) (classes : List ℕ) (x : ℕ) (ys : List ℕ) (i : ℕ) → AreClasses edges classes → AreWithin edges → slice_get edges x ≡ Some ys → i < length ys → x < length edges → get_or classes (get_or ys i 0) 0 ≡ get_or classes x 0 → IsOnCycle edges x
on_cycle edges classes x ys i classed within list small x_small same =
    let y = get_or ys i 0 in
    let edge : Edge edges x y = (ys, list, (i, get_index ys i 0 y small refl)) in
    let y_small = edge_small edges x y within edge in
    let there = classed.sound y (get_or classes x 0) (get_index classes y 0 (get_or classes x 0) (omega (arith, classed.len)) same) in
    let again = classed.sound x (get_or classes x 0) (get_index classes x 0 (get_or classes x 0) (omega (arith, classed.len)) refl) in
    (y, edge, joined (Edge edges) there.0 again.1)

pub off_cycle : (edges : List (List ℕ)) (classes : List ℕ) (x : ℕ) (ys : List ℕ) (n : ℕ) → AreClasses edges classes → slice_get edges x ≡ Some ys → x < length edges → length ys ≤ n → ((y : ℕ) → Has (take n ys) y → ¬ (slice_get classes y ≡ Some (get_or classes x 0))) → ¬ (IsOnCycle edges x)
off_cycle edges classes x ys n classed list x_small all none cycle =
    let edge = cycle.1 in
    let ours : edge.0 ≡ take n ys = one_at edges x edge.0 ys edge.1 list ∙ sym (take_whole ys n all) in
    let class = get_index classes x 0 (get_or classes x 0) (omega (arith, classed.len)) refl in
    none cycle.0 (subst (λ (l : List ℕ). Has l cycle.0) ours edge.2) (classed.complete x cycle.0 (get_or classes x 0) class (along edge here, cycle.2))

pub next_off : (classes ys : List ℕ) (c i : ℕ) → ¬ (get_or classes (get_or ys i 0) 0 ≡ c) → ((y : ℕ) → Has (take i ys) y → ¬ (slice_get classes y ≡ Some c)) → (y : ℕ) → Has (take (i + 1) ys) y → ¬ (slice_get classes y ≡ Some c)
next_off classes ys c i other none y has is = elim (has_more ys i y has) [
  | inl old ↦ none y old is
  | inr same ↦ other (ap (λ (z : ℕ). get_or classes z 0) same ∙ one_at classes y (get_or classes y 0) c (get_index classes y 0 (get_or classes y 0) (get_small classes y c is) refl) is)
]

-- the first i numbers are marked where they lie on a cycle
pub record AreHalfMarked (edges : List (List ℕ)) (i : ℕ) (marks : List Bool) : Type 0 where
  pub within : i ≤ length edges
  pub len : length marks ≡ i
  pub sound : (x : ℕ) → IsOn marks x → IsOnCycle edges x
  pub complete : (x : ℕ) → x < i → IsOnCycle edges x → IsOn marks x

pub half_begin : (edges : List (List ℕ)) (marks : List Bool) → marks ≡ [] → AreHalfMarked edges 0 marks
half_begin edges marks is = record {
  within = omega arith;
  len = ap length is;
  sound = λ x on. absurd (let small = get_small marks x true on in let none = ap length is in omega arith);
  complete = λ x below cycle. absurd (omega arith);
}

pub half_step : (edges : List (List ℕ)) (i : ℕ) (marks after : List Bool) (b : Bool) → i < length edges → (IsTrue b ↔ IsOnCycle edges i) → after ≡ marks ++ b ∷ [] → AreHalfMarked edges i marks → AreHalfMarked edges (i + 1) after
half_step edges i marks after b small told is a = subst (λ (l : List Bool). AreHalfMarked edges (i + 1) l) (sym is) (record {
  within = omega arith;
  len = (let h = a.len in length_more marks b ∙ (let up : length marks + 1 ≡ i + 1 = omega arith in up));
  sound = λ x on. elim (place_split marks b x true on) [
    | inl old ↦ a.sound x old
    | inr last ↦ subst (λ (y : ℕ). IsOnCycle edges y) (sym (last.1 ∙ a.len)) (told.0 (sym last.0))
  ];
  complete = λ x below cycle. elim (cases_lt x i) [
    | inl earlier ↦ get-front marks (b ∷ []) x true (a.complete x earlier cycle)
    | inr last ↦ (
        let same : x ≡ i = omega arith in
        ap (slice_get (marks ++ b ∷ [])) (same ∙ sym a.len) ∙ get_last marks b ∙ ap Some (told.1 (subst (λ (y : ℕ). IsOnCycle edges y) same cycle)))
  ];
})
  where
    length_more : (ms : List Bool) (c : Bool) → length (ms ++ c ∷ []) ≡ length ms + 1
    length_more [] c = refl
    length_more (m ∷ ms) c = let h = length_more ms c in omega arith

pub half_end : (edges : List (List ℕ)) (i : ℕ) (marks : List Bool) → length edges ≤ i → AreHalfMarked edges i marks → AreCycleMarks edges marks
half_end edges i marks all a = record {
  len = (let h = a.len in let g = a.within in omega arith);
  sound = a.sound;
  complete = λ x cycle. (let edge = cycle.1 in let small = get_small edges x edge.0 edge.1 in a.complete x (omega arith) cycle);
}
