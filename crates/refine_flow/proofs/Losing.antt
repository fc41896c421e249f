-- Going over the variables that have facts, in order.
use Rattle.std.proofs.Common.{◌≡◌, ◌<◌, ◌≤◌, ◌-◌, ◌⊎◌, ◌&&◌, not, ℕ, Bool, true, false, Option, Some, None, MatchOption, refl, sym, ap, ◌∙◌, inl, inr, if◌then◌else◌, subst, arith}
use Rattle.std.proofs.lemmas.Bool.{cases_lt}
use Rattle.fact_trail.specs.declared.fact.Fact.{Fact}
use Rattle.fact_trail.specs.declared.trail.Trail.{Trail}
use Rattle.fact_trail.specs.declared.slot.Slot.TheVariants.{Variable, Property}
use Rattle.fact_trail.specs.declared.slot.Slot.{Slot}
use Rattle.fact_trail.specs.Slots.{Map as Slots, is_slot, is_number}
use Rattle.fact_trail.specs.Moments.{map_of, Drops}
use Rattle.fact_trail.proofs.Same.{same_slot, number_itself}
use Rattle.fact_trail.proofs.Changes.{Loses, all_lost}
use Rattle.refine_flow.specs.Standing.{is_lost}

-- the number comes before the next one
abbrev pub IsBefore : ℕ → Option ℕ → Type 0
IsBefore b None = Unit {0}
IsBefore b (Some next) = b < next

-- how many numbers of 32 bits there are from the next one on
abbrev pub left_from : Option ℕ → ℕ
left_from None = 0
left_from (Some next) = 4294967296 - next

-- the fact on a variable that is none of these
abbrev pub is_other : (ℕ → Bool) → ℕ → Slot → Bool
is_other kept b s = not (kept b) && is_slot (Variable b) s

other_lost : (kept : ℕ → Bool) (b : ℕ) (s : Slot) → is_lost kept s ≡ false → is_other kept b s ≡ false
other_lost kept b s stays = at (kept b) refl (is_slot (Variable b) s) refl
  where
    at : (k : Bool) → kept b ≡ k → (t : Bool) → is_slot (Variable b) s ≡ t → (not (kept b) && is_slot (Variable b) s) ≡ false
    at true is t same = ap (λ k. not k && is_slot (Variable b) s) is
    at false is false other = (λ i. not (is i) && other i)
    at false is true same = absurd (clash (sym (ap not is) ∙ ap (is_lost kept) (same_slot (Variable b) s same) ∙ stays))
      where
        clash : true ≡ false → ⊥
        clash e = cc

-- one more that is dropped
pub loses_other : (kept : ℕ → Bool) (b : ℕ) (start old new : Trail) → Loses (is_lost kept) start old → Drops (is_other kept b) old new → Loses (is_lost kept) start new
loses_other kept b start old new first second = record {
  others = λ q stays. ap (λ (m : Slots). m q) second.facts ∙ ap (λ t. if t then None else map_of old q) (other_lost kept b q stays) ∙ first.others q stays;
  longer = omega (arith, first.longer, second.longer);
  moments = λ n within. second.moments n (omega (arith, within, first.longer)) ∙ first.moments n within;
  fresh = λ q was. second.fresh q (first.fresh q was);
}

three_ways : (b c : ℕ) → (b < c) ⊎ ((b ≡ c) ⊎ (c < b))
three_ways b c = at (cases_lt b c) (cases_lt c b)
  where
    at : ((b < c) ⊎ (c ≤ b)) → ((c < b) ⊎ (b ≤ c)) → (b < c) ⊎ ((b ≡ c) ⊎ (c < b))
    at (inl less) second = inl less
    at (inr more) (inl above) = inr (inr above)
    at (inr more) (inr below) = inr (inl (omega arith))

-- those before the next one after it
pub passed_more : (kept : ℕ → Bool) (binding : ℕ) (next : Option ℕ) (old new : Trail) → ((b : ℕ) → b < binding → kept b ≡ false → map_of old (Variable b) ≡ None) → Drops (is_other kept binding) old new →
    MatchOption next ((b : ℕ) → binding < b → map_of new (Variable b) ≡ None) (λ n. (binding < n) × ((b : ℕ) → binding < b → b < n → map_of new (Variable b) ≡ None)) →
    (b : ℕ) → IsBefore b next → kept b ≡ false → map_of new (Variable b) ≡ None
passed_more kept binding next old new passed drops after b before lost = at (three_ways b binding)
  where
    gone : map_of new (Variable b) ≡ (if is_other kept binding (Variable b) then None else map_of old (Variable b))
    gone = ap (λ (m : Slots). m (Variable b)) drops.facts

    none_where : (t : Bool) (o : Option Fact) → o ≡ None → (if t then None else o) ≡ None
    none_where true o is = refl
    none_where false o is = is

    from : (n : Option ℕ) → MatchOption n ((c : ℕ) → binding < c → map_of new (Variable c) ≡ None) (λ m. (binding < m) × ((c : ℕ) → binding < c → c < m → map_of new (Variable c) ≡ None)) → IsBefore b n → binding < b → map_of new (Variable b) ≡ None
    from None is here above = is b above
    from (Some m) is here above = is.1 b above here

    at : (b < binding) ⊎ ((b ≡ binding) ⊎ (binding < b)) → map_of new (Variable b) ≡ None
    at (inl less) = gone ∙ none_where (is_other kept binding (Variable b)) (map_of old (Variable b)) (passed b less lost)
    at (inr (inl same)) =
        gone ∙ (λ i. if not (kept (sym same i)) && is_number (sym same i) b then None else map_of old (Variable b))
        ∙ (λ i. if not (lost i) && number_itself b i then None else map_of old (Variable b))
    at (inr (inr above)) = from next after before above

-- before the first one
pub passed_none : (kept : ℕ → Bool) (next : Option ℕ) (f : Trail) →
    MatchOption next ((b : ℕ) → 0 ≤ b → map_of f (Variable b) ≡ None) (λ n. (0 ≤ n) × ((b : ℕ) → 0 ≤ b → b < n → map_of f (Variable b) ≡ None)) → (b : ℕ) → IsBefore b next → kept b ≡ false → map_of f (Variable b) ≡ None
passed_none kept None f is b before lost = is b (omega arith)
passed_none kept (Some n) f is b before lost = is.1 b (omega arith) before

-- fewer are left
pub fewer_left : (binding : ℕ) (next : Option ℕ) (P : Type 0) (Q : ℕ → Type 0) → binding < 4294967296 → MatchOption next P (λ n. (binding < n) × Q n) → left_from next < left_from (Some binding)
fewer_left binding None P Q small is = omega arith
fewer_left binding (Some n) P Q small is = let above = is.0 in omega (arith, above, small)

-- all of them are dropped
pub all_others : (kept : ℕ → Bool) (old new : Trail) → Loses (is_lost kept) old new → ((b : ℕ) → kept b ≡ false → map_of new (Variable b) ≡ None) → Drops (is_lost kept) old new
all_others kept old new lost none = all_lost (is_lost kept) old new lost at
  where
    at : (s : Slot) → is_lost kept s ≡ true → map_of new s ≡ None
    at (Property k) is = cc
    at (Variable b) is = none b (unkept (kept b) is)
      where
        unkept : (k : Bool) → not k ≡ true → k ≡ false
        unkept false e = refl
        unkept true e = cc

-- what is dropped where a test holds
pub dropped_if : (b : Bool) (gone : Slot → Bool) (old new : Trail) → b ≡ true → Drops gone old new → Drops (λ s. b && gone s) old new
dropped_if b gone old new is drops = subst (λ t. Drops (λ s. t && gone s) old new) (sym is) drops
