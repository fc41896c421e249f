-- Levels rise, and stay below the number of components.
use Rattle.std.proofs.Common.{◌≡◌, ◌≢◌, ℕ, zero, suc, ◌+◌, ◌-◌, ◌<◌, ◌≤◌, Bool, true, false, List, [], ◌∷◌, length, set, get_or, slice_get, take, replicate, Some, refl, sym, ap, ◌∙◌, inl, inr, arith, subst}
use Rattle.std.specs.Prelude.{IsTrue}
use Rattle.std.proofs.lemmas.Bool.{cases_lt}
use native.Mathlib.Decide.{ℕ_discrete}
use Rattle.graph_search.specs.Cycles.{Leads, here, along, Has, Edge, IsOn}
use Rattle.graph_search.specs.Searching.{open_count}
use Rattle.graph_search.specs.Leveling.{IsOwned, Asks, AreLow, room, Rises, IsAbove, IsRaised, IsOver, IsRaisedOver, IsHigh, HasRisen, HaveRisen, AreLevels}
use Rattle.graph_search.proofs.Lists.{none_some, get_small, get-set_here, get-set_else, length-set_here, stays_on, count-set, has_more, has_none, take_whole, get_index}
use Rattle.graph_search.proofs.Searches.{joined}
use Rattle.graph_search.proofs.Pivots.{on_or_off}
use Rattle.graph_search.proofs.Rising.{one_at}
use Rattle.graph_search.proofs.Reaches.{on_replicate}

count_replicate : (n : ℕ) → open_count (replicate n true) ≡ n
count_replicate zero = refl
count_replicate (suc n) = let h = count_replicate n in omega arith

-- what asked is off, but for k, was off
was_off : (left : List Bool) (k j : ℕ) → ¬ (IsOn (set left k false) j) → ¬ (j ≡ k) → ¬ (IsOn left j)
was_off left k j off other on = elim (stays_on left k j on) [ inl still ↦ off still | inr same ↦ other same ]

module _ (edges : List (List ℕ)) (owners : List ℕ) (count : ℕ) (owned : IsOwned edges owners count) (levels : List ℕ) (low : AreLow edges owners count levels) where
  one_owner : (x y k : ℕ) → slice_get owners x ≡ Some k → slice_get owners y ≡ Some k → Leads (Edge edges) x y
  one_owner x y k a b = (owned.1.together k x y (owned.2.stands x k a) (owned.2.stands y k b)).0

  -- an edge from k to j, and a way back, make them one
  no_way_back : (k j : ℕ) (asks : Asks edges owners k j) → Leads (Edge edges) asks.1.1 asks.1.0 → ⊥
  no_way_back k j asks back =
      let e = asks.1 in
      asks.0 (owned.1.apart k j e.0 e.1 (owned.2.stands e.0 k e.2) (owned.2.stands e.1 j e.3) (along e.4 here, back))

  -- each owner that is off leads to k
  abbrev AllLead : List Bool → ℕ → Type 0
  AllLead left k = (j x y : ℕ) → ¬ (IsOn left j) → slice_get owners x ≡ Some j → slice_get owners y ≡ Some k → Leads (Edge edges) x y

  next_on : (left : List Bool) (k j : ℕ) (asks : Asks edges owners k j) → AllLead left k → IsOn (set left k false) j
  next_on left k j asks off = elim (on_or_off (set left k false) j) [
    | inl on ↦ on
    | inr is_off ↦ absurd (no_way_back k j asks (off j asks.1.1 asks.1.0 (was_off left k j is_off (λ same. asks.0 (sym same))) asks.1.3 asks.1.2))
  ]

  next_lead : (left : List Bool) (k j : ℕ) (asks : Asks edges owners k j) → AllLead left k → AllLead (set left k false) j
  next_lead left k j asks off i x y is_off x_i y_j =
      let e = asks.1 in
      let onward : Leads (Edge edges) e.0 y = along e.4 (one_owner e.1 y j e.3 y_j) in
      elim (ℕ_discrete i k) [
        | yes same ↦ joined (Edge edges) (one_owner x e.0 k (x_i ∙ ap Some same) e.2) onward
        | no other ↦ joined (Edge edges) (off i x e.0 (was_off left k i is_off other) x_i e.2) onward
      ]

  climb : (w : ℕ) (left : List Bool) (k v : ℕ) → slice_get levels k ≡ Some v → w ≤ v → IsOn left k → AllLead left k → w < open_count left
  climb zero left k v at le on off = let c = count-set left k on in omega arith
  climb (suc w) left k v at le on off =
      let e : v ≡ (v - 1) + 1 = omega arith in
      let l = low.low k (v - 1) (at ∙ ap Some e) in
      let c = count-set left k on in
      let h = climb w (set left k false) l.0 l.1 l.3 (let u = l.4 in omega arith) (next_on left k l.0 l.2 off) (next_lead left k l.0 l.2 off) in
      omega arith

  pub below_count : (k v : ℕ) → slice_get levels k ≡ Some v → v < count
  below_count k v at =
      let small : k < count = let h = get_small levels k v at in omega (arith, low.len) in
      let h = climb v (replicate count true) k v at (omega arith) (on_replicate count k small) (λ j x y off x_j y_k. absurd (
      let s = owned.2.stands x j x_j in
      let inside = get_small owned.0 j s.0 s.1 in
      off (on_replicate count j (omega (arith, owned.3))))) in
      let c = count_replicate count in
      omega arith

  pub owner_small : (y j : ℕ) → slice_get owners y ≡ Some j → j < count
  owner_small y j at = let s = owned.2.stands y j at in let inside = get_small owned.0 j s.0 s.1 in omega (arith, owned.3)

-- ---- one level rises

room_set : (n : ℕ) (levels : List ℕ) (k u w : ℕ) → slice_get levels k ≡ Some u → u < w → u < n → room n (set levels k w) < room n levels
room_set n [] k u w at more small = none_some u at
room_set n (l ∷ levels) zero u w at more small = let both : Some l ≡ Some u = at in let same : l ≡ u = cc in omega arith
room_set n (l ∷ levels) (suc k) u w at more small = let h = room_set n levels k u w at more small in omega arith

pub above_now : (levels : List ℕ) (k j : ℕ) → k < length levels → j < length levels → get_or levels j 0 < get_or levels k 0 → IsAbove levels k j
above_now levels k j k_small j_small less w v at_k at_j =
    let a = one_at levels k w (get_or levels k 0) at_k (get_index levels k 0 (get_or levels k 0) k_small refl) in
    let b = one_at levels j v (get_or levels j 0) at_j (get_index levels j 0 (get_or levels j 0) j_small refl) in
    omega arith

pub rises_none : (levels : List ℕ) → Rises levels levels false
rises_none levels = record { len = refl; less = λ t. absurd (let f : false ≡ true = t in cc); still = λ no_rise. refl }

pub rises_more : (r : Bool) (a b c : List ℕ) → Rises a b r → Rises b c true → Rises a c true
rises_more r a b c first next = record {
  len = next.len ∙ first.len;
  less = λ t. go r first;
  still = λ no_rise. absurd (no_rise refl);
}
  where
    here_less : room (length a) c < room (length a) b
    here_less = subst (λ (n : ℕ). room n c < room n b) first.len (next.less refl)

    go : (r : Bool) → Rises a b r → room (length a) c < room (length a) a
    go true f = let h = f.less refl in let k = here_less in omega arith
    go false f = subst (λ (l : List ℕ). room (length a) c < room (length a) l) (f.still (λ t. let g : false ≡ true = t in cc)) here_less

pub rises_still : (r : Bool) (a b c : List ℕ) → Rises a b r → c ≡ b → Rises a c r
rises_still r a b c first same = subst (λ (l : List ℕ). Rises a l r) (sym same) first

module _ (edges : List (List ℕ)) (owners : List ℕ) (count k y : ℕ) (before after : List ℕ) (a : AreLow edges owners count before) (raised : IsRaisedOver owners k y before after true) where
  abbrev the : (j : ℕ) × (slice_get owners y ≡ Some j) × (k ≢ j) × IsRaised k j before after true
  the = raised.risen refl

  abbrev how : (u : ℕ) × (v : ℕ) × (slice_get before k ≡ Some u) × (slice_get before the.0 ≡ Some v) × (u ≤ v) × (after ≡ set before k (v + 1))
  how = the.3.risen refl

  at_k : slice_get after k ≡ Some (how.1 + 1)
  at_k = ap (λ (l : List ℕ). slice_get l k) how.5 ∙ get-set_here before k (how.1 + 1) (get_small before k how.0 how.2)

  at_others : (m : ℕ) → ¬ (m ≡ k) → slice_get after m ≡ slice_get before m
  at_others m other = ap (λ (l : List ℕ). slice_get l m) how.5 ∙ get-set_else before k m (how.1 + 1) other

  -- no level fell
  at_least : (m v : ℕ) → slice_get before m ≡ Some v → (w : ℕ) × (slice_get after m ≡ Some w) × (v ≤ w)
  at_least m v at = elim (ℕ_discrete m k) [
    | yes same ↦ (let was = one_at before k v how.0 (ap (slice_get before) (sym same) ∙ at) how.2 in let le = how.4 in (how.1 + 1, ap (slice_get after) same ∙ at_k, omega arith))
    | no other ↦ (v, at_others m other ∙ at, omega arith)
  ]

  pub low_raised : (x : ℕ) → slice_get owners x ≡ Some k → Edge edges x y → AreLow edges owners count after
  low_raised x x_k edge = record {
    len = ap length how.5 ∙ length-set_here before k (how.1 + 1) ∙ a.len;
    low = λ m w at. elim (ℕ_discrete m k) [
      | yes same ↦ (
          let level : w + 1 ≡ how.1 + 1 = one_at after k (w + 1) (how.1 + 1) (ap (slice_get after) (sym same) ∙ at) at_k in
          let asks : Asks edges owners m the.0 = ((λ equal. the.2 (sym same ∙ equal)), (x, y, x_k ∙ ap Some (sym same), the.1, edge)) in
          (the.0, how.1, asks, at_others the.0 (λ equal. the.2 (sym equal)) ∙ how.3, omega arith))
      | no other ↦ (
          let l = a.low m w (sym (at_others m other) ∙ at) in
          let now = at_least l.0 l.1 l.3 in
          (l.0, now.0, l.2, now.1, (let le = l.4 in let more = now.2 in omega arith)))
    ];
  }

  pub rises_raised : how.0 < length before → Rises before after true
  rises_raised small = record {
    len = ap length how.5 ∙ length-set_here before k (how.1 + 1);
    less = λ t. subst (λ (l : List ℕ). room (length before) l < room (length before) before) (sym how.5) (room_set (length before) before k how.0 (how.1 + 1) how.2 (let le = how.4 in omega arith) small);
    still = λ no_rise. absurd (no_rise refl);
  }

-- ---- the edges of one number, one after another

-- k rose over one of ys, or it is over them all
pub record RisesOver (edges : List (List ℕ)) (owners : List ℕ) (k : ℕ) (ys : List ℕ) (before after : List ℕ) (rose : Bool) : Type 0 where
  pub low : AreLow edges owners (length before) after
  pub rises : Rises before after rose
  pub high : ¬ (IsTrue rose) → (y : ℕ) → Has ys y → IsOver owners after k y

pub over_begin : (edges : List (List ℕ)) (owners : List ℕ) (k : ℕ) (levels : List ℕ) → AreLow edges owners (length levels) levels → RisesOver edges owners k [] levels levels false
over_begin edges owners k levels low = record { low = low; rises = rises_none levels; high = λ no_rise y has. absurd (has_none y has) }

pub over_rose : (edges : List (List ℕ)) (owners : List ℕ) (k x : ℕ) (ys : List ℕ) (i y : ℕ) (start before after : List ℕ) (rose : Bool) → IsOwned edges owners (length start) → slice_get owners x ≡ Some k → Edge edges x y →
    RisesOver edges owners k (take i ys) start before rose → IsRaisedOver owners k y before after true → RisesOver edges owners k (take (i + 1) ys) start after true
over_rose edges owners k x ys i y start before after rose owned x_k edge a raised = record {
  low = low_raised edges owners (length start) k y before after a.low raised x x_k edge;
  rises = rises_more rose start before after a.rises (rises_raised edges owners (length start) k y before after a.low raised
      (let r = (raised.risen refl).3.risen refl in let h = below_count edges owners (length start) owned before a.low k r.0 r.2 in let size = a.rises.len in omega arith));
  high = λ no_rise. absurd (no_rise refl);
}

pub over_still : (edges : List (List ℕ)) (owners : List ℕ) (k : ℕ) (ys : List ℕ) (i y : ℕ) (start before after : List ℕ) (rose : Bool) → get_or ys i 0 ≡ y →
    RisesOver edges owners k (take i ys) start before rose → IsRaisedOver owners k y before after false → RisesOver edges owners k (take (i + 1) ys) start after rose
over_still edges owners k ys i y start before after rose is a raised =
    let s = raised.still (λ t. let f : false ≡ true = t in cc) in
    subst (λ (l : List ℕ). RisesOver edges owners k (take (i + 1) ys) start l rose) (sym s.0) (record {
      low = a.low;
      rises = a.rises;
      high = λ no_rise z has. elim (has_more ys i z has) [ inl old ↦ a.high no_rise z old | inr same ↦ subst (λ (q : ℕ). IsOver owners before k q) (sym is ∙ same) s.1 ];
    })

pub over_end : (edges : List (List ℕ)) (owners : List ℕ) (k x : ℕ) (ys view : List ℕ) (n : ℕ) (start after : List ℕ) (rose : Bool) → slice_get owners x ≡ Some k → slice_get edges x ≡ Some ys → view ≡ ys → length view ≤ n →
    RisesOver edges owners k (take n view) start after rose → HasRisen edges owners x start after rose
over_end edges owners k x ys view n start after rose x_k list same all a = record {
  low = a.low;
  rises = a.rises;
  high = λ no_rise j y x_j edge. (
      let ours : edge.0 ≡ take n view = one_at edges x edge.0 ys edge.1 list ∙ sym same ∙ sym (take_whole view n all) in
      let owner : k ≡ j = one_at owners x k j x_k x_j in
      subst (λ (q : ℕ). IsOver owners after q y) owner (a.high no_rise y (subst (λ (l : List ℕ). Has l y) ours edge.2)));
}

-- ---- the numbers, one after another

pub all_begin : (edges : List (List ℕ)) (owners levels : List ℕ) → AreLow edges owners (length levels) levels → HaveRisen edges owners 0 levels levels false
all_begin edges owners levels low = record { low = low; rises = rises_none levels; high = λ no_rise x below. absurd (omega arith) }

pub all_rose : (edges : List (List ℕ)) (owners : List ℕ) (n x : ℕ) (start before after : List ℕ) (rose : Bool) → HaveRisen edges owners n start before rose → HasRisen edges owners x before after true → HaveRisen edges owners (n + 1) start after true
all_rose edges owners n x start before after rose a step = record {
  low = subst (λ (m : ℕ). AreLow edges owners m after) a.rises.len step.low;
  rises = rises_more rose start before after a.rises step.rises;
  high = λ no_rise. absurd (no_rise refl);
}

pub all_still : (edges : List (List ℕ)) (owners : List ℕ) (n : ℕ) (start before after : List ℕ) (rose : Bool) → HaveRisen edges owners n start before rose → HasRisen edges owners n before after false → HaveRisen edges owners (n + 1) start after rose
all_still edges owners n start before after rose a step =
    let no_rise : ¬ (false ≡ true) = λ (t : false ≡ true). cc in
    let same = step.rises.still no_rise in
    record {
      low = subst (λ (m : ℕ). AreLow edges owners m after) a.rises.len step.low;
      rises = rises_still rose start before after a.rises same;
      high = λ quiet x below. elim (cases_lt x n) [
        | inl earlier ↦ subst (λ (l : List ℕ). IsHigh edges owners l x) (sym same) (a.high quiet x earlier)
        | inr last ↦ (let equal : n ≡ x = omega arith in subst (λ (m : ℕ). IsHigh edges owners after m) equal (step.high no_rise))
      ];
    }

-- where none rises, the levels are those that the edges ask for
pub all_levels : (edges : List (List ℕ)) (owners : List ℕ) (n count : ℕ) (before after : List ℕ) → length edges ≤ n → length before ≡ count → HaveRisen edges owners n before after false → AreLevels edges owners count after
all_levels edges owners n count before after all size a = record {
  low = subst (λ (m : ℕ). AreLow edges owners m after) size a.low;
  high = λ k j asks. (
      let e = asks.1 in
      let small = get_small edges e.0 e.4.0 e.4.1 in
      a.high (λ (t : false ≡ true). cc) e.0 (omega arith) k e.1 e.2 e.4 j e.3 asks.0);
}
