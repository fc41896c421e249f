-- Sorting places into lists, one after another.
use Rattle.std.proofs.Common.{◌≡◌, ℕ, zero, suc, ◌+◌, ◌<◌, ◌≤◌, List, [], ◌∷◌, ◌++◌, length, set, slice_get, replicate, Some, sym, ap, ◌∙◌, inl, inr, arith, subst}
use Rattle.std.proofs.lemmas.List.{length-replicate}
use Rattle.std.proofs.lemmas.Bool.{cases_lt}
use native.Mathlib.Decide.{ℕ_discrete}
use Rattle.graph_search.specs.Cycles.{Has}
use Rattle.graph_search.specs.Reach.{IsRising}
use Rattle.graph_search.specs.Components.{StandsIn}
use Rattle.graph_search.specs.Grouping.{HasPut, AreFilled, AreSorted}
use Rattle.graph_search.proofs.Lists.{none_some, get_small, get-front, get-set_here, get-set_else, length-set_here, has-last, last-split, has_none}
use Rattle.graph_search.proofs.Rising.{one_at, rising_none, rising_more}

pub get-replicate : {A : Type 0} (n k : ℕ) (a x : A) → slice_get (replicate n a) k ≡ Some x → x ≡ a
get-replicate zero k a x is = none_some x is
get-replicate (suc n) zero a x is = let both : Some a ≡ Some x = is in cc
get-replicate (suc n) (suc k) a x is = get-replicate n k a x is

pub was_put : (lists after : List (List ℕ)) (k x : ℕ) (xs : List ℕ) → k < length lists → slice_get lists k ≡ Some xs → after ≡ set lists k (xs ++ x ∷ []) → HasPut k x lists after
was_put lists after k x xs small at is = subst (λ (l : List (List ℕ)). HasPut k x lists l) (sym is) (record {
  len = length-set_here lists k (xs ++ x ∷ []);
  there = (xs, at, get-set_here lists k (xs ++ x ∷ []) small);
  others = λ j other. get-set_else lists k j (xs ++ x ∷ []) other;
})

pub fills_begin : (keys : List ℕ) (count : ℕ) (lists : List (List ℕ)) → lists ≡ replicate count [] → AreFilled keys count 0 lists
fills_begin keys count lists is = subst (λ (l : List (List ℕ)). AreFilled keys count 0 l) (sym is) (record {
  len = length-replicate count [];
  rising = λ k xs at. subst (λ (l : List ℕ). IsRising l) (sym (get-replicate count k [] xs at)) rising_none;
  there = λ x k below at. absurd (omega arith);
  only = λ k x s. absurd (has_none x (subst (λ (l : List ℕ). Has l x) (get-replicate count k [] s.0 s.1) s.2));
})

module _ (keys : List ℕ) (count i k : ℕ) (before after : List (List ℕ)) (is : slice_get keys i ≡ Some k) (a : AreFilled keys count i before) (put : HasPut k i before after) where
  abbrev old : List ℕ
  old = put.there.0

  -- the list at k is the old one with i behind it
  is_new : (j : ℕ) (xs : List ℕ) → j ≡ k → slice_get after j ≡ Some xs → xs ≡ old ++ i ∷ []
  is_new j xs same at = one_at after k xs (old ++ i ∷ []) (ap (slice_get after) (sym same) ∙ at) put.there.2

  stays : (j x : ℕ) → StandsIn before j x → StandsIn after j x
  stays j x s = elim (ℕ_discrete j k) [
    | yes same ↦ (
        let was : s.0 ≡ old = one_at before k s.0 old (ap (slice_get before) (sym same) ∙ s.1) put.there.1 in
        (old ++ i ∷ [], ap (slice_get after) same ∙ put.there.2, (s.2.0, get-front old (i ∷ []) s.2.0 x (ap (λ (l : List ℕ). slice_get l s.2.0) (sym was) ∙ s.2.1))))
    | no other ↦ (s.0, put.others j other ∙ s.1, s.2)
  ]

  was_there : (j x : ℕ) → StandsIn after j x → (x < i + 1) × (slice_get keys x ≡ Some j)
  was_there j x s = elim (ℕ_discrete j k) [
    | yes same ↦ elim (last-split old i s.2.0 x (ap (λ (l : List ℕ). slice_get l s.2.0) (sym (is_new j s.0 same s.1)) ∙ s.2.1)) [
      | inl has ↦ (let r = a.only k x (old, put.there.1, has) in (omega arith, r.1 ∙ ap Some (sym same)))
      | inr last ↦ (omega arith, ap (slice_get keys) last ∙ is ∙ ap Some (sym same))
    ]
    | no other ↦ (let r = a.only j x (s.0, sym (put.others j other) ∙ s.1, s.2) in (omega arith, r.1))
  ]

  pub fills_step : AreFilled keys count (i + 1) after
  fills_step = record {
    len = put.len ∙ a.len;
    rising = λ j xs at. elim (ℕ_discrete j k) [
      | yes same ↦ subst (λ (l : List ℕ). IsRising l) (sym (is_new j xs same at)) (rising_more old i (a.rising k old put.there.1) (λ y has. (a.only k y (old, put.there.1, has)).0))
      | no other ↦ a.rising j xs (sym (put.others j other) ∙ at)
    ];
    there = λ x j below at. elim (cases_lt x i) [
      | inl earlier ↦ stays j x (a.there x j earlier at)
      | inr last ↦ (
          let here : x ≡ i = omega arith in
          let same : k ≡ j = one_at keys i k j is (ap (slice_get keys) (sym here) ∙ at) in
          (old ++ i ∷ [], ap (slice_get after) (sym same) ∙ put.there.2, subst (λ (y : ℕ). Has (old ++ i ∷ []) y) (sym here) (has-last old i)))
    ];
    only = was_there;
  }

pub fills_end : (keys : List ℕ) (count i : ℕ) (lists : List (List ℕ)) → length keys ≤ i → AreFilled keys count i lists → AreSorted keys count lists
fills_end keys count i lists all a = record {
  len = a.len;
  rising = a.rising;
  there = λ x k at. (let small = get_small keys x k at in a.there x k (omega arith) at);
  only = λ k x s. (a.only k x s).1;
}
