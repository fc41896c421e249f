-- Levels with which the edges agree, sorted, are the waves.
use Rattle.std.proofs.Common.{◌≡◌, ℕ, zero, suc, ◌+◌, ◌-◌, ◌<◌, List, length, slice_get, replicate, Some, refl, sym, ap, ◌∙◌, arith}
use Rattle.std.specs.Prelude.{All}
use Rattle.std.proofs.lemmas.List.{length-replicate}
use Rattle.graph_search.specs.Cycles.{Has}
use Rattle.graph_search.specs.Components.{AreComponents}
use Rattle.graph_search.specs.Waves.{DependsOn, AreWaves}
use Rattle.graph_search.specs.Grouping.{AreSorted}
use Rattle.graph_search.specs.Leveling.{AreOwners, Asks, AreLow, AreLevels}
use Rattle.graph_search.proofs.Lists.{get_small}
use Rattle.graph_search.proofs.Rising.{one_at, get_there}
use Rattle.graph_search.proofs.Fills.{get-replicate}
use Rattle.graph_search.proofs.Searches.{all_from_has}
use Rattle.graph_search.proofs.Climbs.{below_count}

pub low_begin : (edges : List (List ℕ)) (owners : List ℕ) (count : ℕ) (levels : List ℕ) → levels ≡ replicate count 0 → AreLow edges owners count levels
low_begin edges owners count levels is = record {
  len = ap length is ∙ length-replicate count 0;
  low = λ k w at. absurd (let zero_level = get-replicate count k 0 (w + 1) (ap (λ (l : List ℕ). slice_get l k) (sym is) ∙ at) in omega arith);
}

module _ (edges components : List (List ℕ)) (owners levels : List ℕ) (height : ℕ) (lists : List (List ℕ)) (owns : AreOwners edges components owners) (are : AreLevels edges owners (length components) levels)
    (highest : (w : ℕ) → w + 1 ≡ height → Has levels w) (sorted : AreSorted levels height lists) where
  asks_of : (k j : ℕ) → DependsOn edges components k j → Asks edges owners k j
  asks_of k j d = let e = d.1 in (d.0, (e.0, e.1, owns.given e.0 k e.2, owns.given e.1 j e.3, e.4))

  depends_of : (k j : ℕ) → Asks edges owners k j → DependsOn edges components k j
  depends_of k j a = let e = a.1 in (a.0, (e.0, e.1, owns.stands e.0 k e.2, owns.stands e.1 j e.3, e.4))

  -- a level above another one has one of that level below it
  one_lower : (k w : ℕ) → slice_get levels k ≡ Some (w + 1) → (j : ℕ) × Asks edges owners k j × (slice_get levels j ≡ Some w)
  one_lower k w at =
      let l = are.low.low k w at in
      let less = are.high k l.0 l.2 (w + 1) l.1 at l.3 in
      let same : l.1 ≡ w = let le = l.4 in omega arith in
      (l.0, l.2, l.3 ∙ ap Some same)

  down : (d w k : ℕ) → slice_get levels k ≡ Some (w + d) → (j : ℕ) × (slice_get levels j ≡ Some w)
  down zero w k at = let same : w + zero ≡ w = omega arith in (k, at ∙ ap Some same)
  down (suc d) w k at =
      let same : w + suc d ≡ (w + d) + 1 = omega arith in
      let l = one_lower k (w + d) (at ∙ ap Some same) in
      down d w l.0 l.2

  one_of : (w : ℕ) → w < height → (k : ℕ) × (slice_get levels k ≡ Some w)
  one_of w small =
      let top = highest (height - 1) (omega arith) in
      let same : height - 1 ≡ w + (height - 1 - w) = omega arith in
      down (height - 1 - w) w top.0 (top.1 ∙ ap Some same)

  has_one : (w : ℕ) (ks : List ℕ) → slice_get lists w ≡ Some ks → 0 < length ks
  has_one w ks at =
      let inside = get_small lists w ks at in
      let k = one_of w (omega (arith, sorted.len)) in
      let s = sorted.there k.0 w k.1 in
      let ours : s.0 ≡ ks = one_at lists w s.0 ks s.1 at in
      let small = get_small ks s.2.0 k.0 (ap (λ (l : List ℕ). slice_get l s.2.0) (sym ours) ∙ s.2.1) in
      omega arith

  pub are_waves : AreWaves edges components lists
  are_waves = record {
    each = λ w ks at. (sorted.rising w ks at, has_one w ks at);
    whole = λ k small. (let w = get_there levels k (omega (arith, are.low.len)) in (w.0, sorted.there k w.0 w.1));
    within = λ w k s. (let small = get_small levels k w (sorted.only w k s) in omega (arith, are.low.len));
    once = λ w v k s t. one_at levels k w v (sorted.only w k s) (sorted.only v k t);
    later = λ k j w v d s t. are.high k j (asks_of k j d) w v (sorted.only w k s) (sorted.only v j t);
    tight = λ k w s. (let l = one_lower k w (sorted.only (w + 1) k s) in (l.0, depends_of k l.0 l.1, sorted.there l.0 w l.2));
  }

pub levels_small : (edges components : List (List ℕ)) (owners levels : List ℕ) → AreComponents edges components → AreOwners edges components owners → AreLevels edges owners (length components) levels → All (λ w. w < length levels) levels
levels_small edges components owners levels parts owns are = all_from_has (λ w. w < length levels) levels (λ w has.
    let h = below_count edges owners (length components) (components, parts, owns, refl) levels are.low has.0 w has.1 in
    omega (arith, are.low.len))
