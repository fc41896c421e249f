-- The place of a key among properties whose keys rise, by a binary search.
use Rattle.std.proofs.Common.{◌≡◌, ℕ, zero, suc, ◌<◌, Bool, true, false, List, [], ◌∷◌, length, get_or, ◌+◌, Some, None, Result, Ok, Err, refl, sym, ap, ◌∙◌, subst, inl, inr, arith, if◌then◌else◌}
use Rattle.std.specs.List.Sorted.{IsBinarySearchResult, IsSearchInRange}
use Rattle.std.specs.Result.{result_ok}
use Rattle.std.specs.Ordering.{nat_cmp, is_eq}
use Rattle.std.specs.Cmp.Lexicographic.{slice_cmp, nat_list_cmp_total, bytes_decides, texts_ties}
use Rattle.std.specs.declared.cmp.Ordering.{Ordering}
use Rattle.std.specs.declared.cmp.Ordering.TheVariants.{Less}
use Rattle.std.proofs.lemmas.Bool.{cases_lt}
use Rattle.std.proofs.lemmas.List.Sorted.{searchable_from_sorted}
use Rattle.std.proofs.lemmas.Map.Lookups.{exact_bytes}
use Rattle.flow_values.proofs.Rising.{sorted_from_rising}
use Rattle.flow_values.specs.Path.{IsRising}
use Rattle.type_values.specs.declared.types.FlowProp.{FlowProp}
use Rattle.alias_table.specs.Aliases.{is_text}
use Rattle.subtype_rules.specs.Kept.{keys_of}
use Rattle.subtype_rules.specs.Terms.{place_from, place_at}

abbrev Cmp : List ℕ → List ℕ → Ordering
Cmp a b = slice_cmp nat_cmp a b

same_text : (a b : List ℕ) → a ≡ b → is_text a b ≡ true
same_text a b e = sym (texts_ties a b) ∙ (bytes_decides a b).1 e

-- where no property has the key there is no place
absent : (i : ℕ) (ps : List FlowProp) (key : List ℕ) → ((k : ℕ) (d : FlowProp) → k < length ps → is_text (get_or ps k d).key key ≡ false) → place_from i ps key ≡ None
absent i [] key off = refl
absent i (p ∷ ps) key off = ap (λ (b : Bool). if b then Some i else place_from (suc i) ps key) (off 0 p (omega arith)) ∙ absent (suc i) ps key (λ k d within. off (suc k) d (omega (arith, within)))

-- the first of rising keys is below each later one
below_later : (p : FlowProp) (ps : List FlowProp) → IsRising (keys_of (p ∷ ps)) → (k : ℕ) (d : FlowProp) → k < length ps → Cmp p.key (get_or ps k d).key ≡ Less
below_later p [] rising k d within = absurd (omega (arith, within))
below_later p (q ∷ ps) rising zero d within = rising.0
below_later p (q ∷ ps) rising (suc k) d within = nat_list_cmp_total.trans p.key q.key (get_or ps k d).key rising.0 (below_later q ps rising.1 k d (omega (arith, within)))

later_rise : (p : FlowProp) (ps : List FlowProp) → IsRising (keys_of (p ∷ ps)) → IsRising (keys_of ps)
later_rise p [] rising = tt
later_rise p (q ∷ ps) rising = rising.1

present : (i n : ℕ) (ps : List FlowProp) (key : List ℕ) → IsRising (keys_of ps) → (at : ℕ) → n ≡ at + i → at < length ps → ((d : FlowProp) → (get_or ps at d).key ≡ key) → place_from i ps key ≡ Some n
present i n [] key rising at sum within is = absurd (omega (arith, within))
present i n (p ∷ ps) key rising zero sum within is = let same : i ≡ n = omega (arith, sum) in ap (λ (b : Bool). if b then Some i else place_from (suc i) ps key) (same_text p.key key (is p)) ∙ ap Some same
present i n (p ∷ ps) key rising (suc at) sum within is =
    let h : at < length ps = omega (arith, within) in
    let more : n ≡ at + suc i = omega (arith, sum) in
    let below : Cmp p.key key ≡ Less = subst (λ (k : List ℕ). Cmp p.key k ≡ Less) (is p) (below_later p ps rising at p h) in
    ap (λ (b : Bool). if b then Some i else place_from (suc i) ps key) (ap is_eq below) ∙ present (suc i) n ps key (later_rise p ps rising) at more h is

-- a binary search ends at the place of the key, or where there is none
pub searched : (ps : List FlowProp) (key : List ℕ) → IsRising (keys_of ps) → (r : Result ℕ ℕ) → IsSearchInRange r (length ps) → IsBinarySearchResult (λ p. Cmp p.key key) ps r → result_ok r ≡ place_at ps key
searched ps key rising (Ok at) within found = let sum : at ≡ at + 0 = omega arith in sym (present 0 at ps key rising at sum within (λ d. exact_bytes (get_or ps at d).key key (found d)))
searched ps key rising (Err at) within found =
    let parted = found (searchable_from_sorted nat_list_cmp_total (λ p. p.key) ps key (sorted_from_rising (λ p. p.key) ps rising)) in
    sym (absent 0 ps key (λ k d inside. elim (cases_lt k at) [
      | inl before ↦ ap is_eq (parted.0 k d (omega arith) before)
      | inr behind ↦ ap is_eq (parted.1 k d behind inside)
    ]))
