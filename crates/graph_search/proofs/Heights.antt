-- One more than the highest of a list.
use Rattle.std.proofs.Common.{◌≡◌, ℕ, ◌+◌, ◌<◌, ◌≤◌, List, length, get_or, take, sym, inl, inr, arith, subst}
use Rattle.std.specs.Prelude.{All}
use Rattle.graph_search.specs.Cycles.{Has}
use Rattle.graph_search.proofs.Lists.{has_more, has_none, earlier, this, take_whole}
use Rattle.graph_search.proofs.Searches.{all_from_has}

-- so high are the first i levels
pub record IsHeight (levels : List ℕ) (i height : ℕ) : Type 0 where
  pub below : (w : ℕ) → Has (take i levels) w → w < height
  pub there : (w : ℕ) → w + 1 ≡ height → Has (take i levels) w

pub height_begin : (levels : List ℕ) → IsHeight levels 0 0
height_begin levels = record { below = λ w has. absurd (has_none w has); there = λ w is. absurd (omega arith) }

pub height_up : (levels : List ℕ) (i height : ℕ) → i < length levels → height ≤ get_or levels i 0 → IsHeight levels i height → IsHeight levels (i + 1) (get_or levels i 0 + 1)
height_up levels i height small up a = record {
  below = λ w has. elim (has_more levels i w has) [ inl old ↦ (let h = a.below w old in omega arith) | inr same ↦ omega arith ];
  there = λ w is. (let same : get_or levels i 0 ≡ w = omega arith in subst (λ (v : ℕ). Has (take (i + 1) levels) v) same (this levels i small));
}

pub height_same : (levels : List ℕ) (i height : ℕ) → get_or levels i 0 < height → IsHeight levels i height → IsHeight levels (i + 1) height
height_same levels i height less a = record {
  below = λ w has. elim (has_more levels i w has) [ inl old ↦ a.below w old | inr same ↦ omega arith ];
  there = λ w is. earlier levels i w (a.there w is);
}

pub height_below : (levels : List ℕ) (i height : ℕ) → length levels ≤ i → IsHeight levels i height → All (λ w. w < height) levels
height_below levels i height all a = all_from_has (λ w. w < height) levels (λ w has. a.below w (subst (λ (l : List ℕ). Has l w) (sym (take_whole levels i all)) has))

pub height_there : (levels : List ℕ) (i height : ℕ) → length levels ≤ i → IsHeight levels i height → (w : ℕ) → w + 1 ≡ height → Has levels w
height_there levels i height all a w is = subst (λ (l : List ℕ). Has l w) (take_whole levels i all) (a.there w is)
