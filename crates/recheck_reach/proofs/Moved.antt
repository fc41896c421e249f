-- Which merged signatures are new or differ.
use Rattle.std.proofs.Common.{◌≡◌, ◌≢◌, ◌↔◌, ℕ, ◌+◌, ◌<◌, ◌≤◌, Bool, true, false, not, IsTrue, List, All, map, length, set, replicate, get_or, slice_get, Option, Some, None, refl, sym, ap, ◌∙◌, subst, inl, inr, arith, length-set}
use Rattle.std.proofs.lemmas.Bool.{cases_lt}
use Rattle.std.proofs.lemmas.List.{length-replicate}
use mathlib.Core.Logic.{dite}
use native.Mathlib.Decide.{ℕ_discrete}
use Rattle.heap_core.proofs.Lists.{put_here, put_else, get_index}
use Rattle.check_values.specs.declared.signatures.Sig.{Sig}
use Rattle.graph_search.proofs.Fills.{get-replicate}
use Rattle.recheck_merging.specs.check_phases.proofs.Lists.{one_value, within_there, place_at}
use Rattle.recheck_merging.proofs.Mapped.{all_has, get_mapped, length_mapped}
use Rattle.recheck_sources.specs.Parts.{TellsOthers}
use Rattle.recheck_merging.specs.Keeping.{kept_in}
use Rattle.recheck_merging.specs.Still.{AreOld}
use Rattle.recheck_reach.specs.Moved.{IsAsBefore, IsSameOutside, IsOld, AreTold}

-- ---- one signature

pub known_old : (was : List Sig) (number : Option ℕ) (sig : Sig) (b : Bool) → b ≡ true → (b ≡ true → IsOld was number sig) → (false ≡ false) ↔ IsOld was number sig
known_old was number sig b on known = (λ e. known on, λ old. refl)

-- what a flag says of it
pub said_old : (was : List Sig) (from : List (Option ℕ)) (now : List Sig) (same : List Bool) (x : ℕ) (sig mine : Sig) → AreOld was from (map Some now) same → x < length now → sig ≡ get_or now x sig → mine ≡ sig → get_or same x false ≡ true → IsOld was (get_or from x None) mine
said_old was from now same x sig mine old low is_sig is on = go (get_or from x None) ((old.old x mine true (place_at same x false small ∙ ap Some on) (get_mapped Some now x mine (get_index now x sig low is_sig ∙ ap Some (sym is)))).0 refl)
  where
    small : x < length same
    small = (let many = old.many in let all = length_mapped Some now in omega arith)

    go : (n : Option ℕ) → kept_in was n ≡ Some mine → IsOld was n mine
    go None none = absurd (let z : None ≡ Some mine = none in cc)
    go (Some o) there = (o, refl, there)

pub never_old : (was : List Sig) (number : Option ℕ) (sig : Sig) → number ≡ None → (true ≡ false) ↔ IsOld was number sig
never_old was number sig none = (λ bad. absurd (let z : true ≡ false = bad in cc), λ old. absurd (let z : None ≡ Some old.0 = sym none ∙ old.1 in cc))

pub missing_old : (was : List Sig) (number : Option ℕ) (n : ℕ) (sig : Sig) → number ≡ Some n → slice_get was n ≡ None → (true ≡ false) ↔ IsOld was number sig
missing_old was number n sig is none = (
  λ bad. absurd (let z : true ≡ false = bad in cc),
  λ old. absurd (
      let same : n ≡ old.0 = one_value n old.0 (sym is ∙ old.1) in
      let z : None ≡ Some sig = sym none ∙ (ap (slice_get was) same ∙ old.2) in cc),
)

pub compared_old : (was : List Sig) (number : Option ℕ) (n : ℕ) (old sig : Sig) (b : Bool) → number ≡ Some n → slice_get was n ≡ Some old → IsTrue b ↔ (old ≡ sig) → (not b ≡ false) ↔ IsOld was number sig
compared_old was number n old sig b is there same = (
  λ off. (n, is, there ∙ ap Some (same.0 (on b off))),
  λ it.
      let at : n ≡ it.0 = one_value n it.0 (sym is ∙ it.1) in
      let e : old ≡ sig = one_value old sig (sym there ∙ (ap (slice_get was) at ∙ it.2)) in
      ap not (same.1 e),
)
  where
    on : (b : Bool) → not b ≡ false → IsTrue b
    on true e = refl
    on false e = absurd (let z : true ≡ false = e in cc)

-- ---- one after the other

module _ (was : List Sig) (from : List (Option ℕ)) (now : List Sig) (merged : List ℕ) where
  pub none_told : (flags : List Bool) → flags ≡ replicate (length now) false → IsSameOutside was from merged now → AreTold was from now merged 0 flags
  none_told flags is rest = record {
    many = many;
    others = λ x o old new on at_from at_was at_now. absurd (let z : true ≡ false = get-replicate (length now) x false true (ap (λ (l : List Bool). slice_get l x) (sym is) ∙ on) in cc);
    same = λ x off outside. rest.same x (let low = within_there flags x false off in let m = many in omega arith) (λ has. outside has.0 (omega arith) has.1);
  }
    where
      many : length flags ≡ length now
      many = ap length is ∙ length-replicate (length now) false

  pub all_told : (i : ℕ) (flags : List Bool) → length merged ≤ i → AreTold was from now merged i flags → TellsOthers was from now flags
  all_told i flags all told = record {
    many = told.many;
    others = told.others;
    same = λ x off. told.same x off (λ k above at. (let low = within_there merged k x at in omega arith));
  }

  module _ (i : ℕ) (flags : List Bool) (number : Option ℕ) (sig : Sig) (b : Bool) (low : i < length merged) (room : get_or merged i 0 < length flags) (at_number : slice_get from (get_or merged i 0) ≡ Some number)
      (at_sig : slice_get now (get_or merged i 0) ≡ Some sig) (tells : (b ≡ false) ↔ IsOld was number sig) (told : AreTold was from now merged i flags) where
    abbrev mine : ℕ
    mine = get_or merged i 0

    told_others : (x o : ℕ) (old new : Sig) → slice_get (set flags mine b) x ≡ Some true → slice_get from x ≡ Some (Some o) → slice_get was o ≡ Some old → slice_get now x ≡ Some new → new ≢ old
    told_others x o old new on at_from at_was at_now = dite (ℕ_discrete x mine)
        (λ (same : x ≡ mine). λ (e : new ≡ old). (
        let flag : b ≡ true = one_value b true (sym (put_here flags mine b room) ∙ (ap (slice_get (set flags mine b)) (sym same) ∙ on)) in
        let num : number ≡ Some o = one_value number (Some o) (sym at_number ∙ (ap (slice_get from) (sym same) ∙ at_from)) in
        let sigs : sig ≡ new = one_value sig new (sym at_sig ∙ (ap (slice_get now) (sym same) ∙ at_now)) in
        let off : b ≡ false = tells.1 (o, num, at_was ∙ ap Some (sym (sigs ∙ e))) in
        let z : true ≡ false = sym flag ∙ off in let f : ⊥ = cc in f))
        (λ (ne : x ≢ mine). told.others x o old new (sym (put_else flags mine x b ne) ∙ on) at_from at_was at_now)

    told_same : (x : ℕ) → slice_get (set flags mine b) x ≡ Some false → ((k : ℕ) → i + 1 ≤ k → slice_get merged k ≡ Some x → ⊥) → IsAsBefore was from now x
    told_same x off outside = dite (ℕ_discrete x mine)
        (λ (same : x ≡ mine).
        let flag : b ≡ false = one_value b false (sym (put_here flags mine b room) ∙ (ap (slice_get (set flags mine b)) (sym same) ∙ off)) in
        let old = tells.0 flag in (
          old.0,
          sig,
          ap (slice_get from) same ∙ (at_number ∙ ap Some old.1),
          old.2,
          ap (slice_get now) same ∙ at_sig,
        ))
        (λ (ne : x ≢ mine). told.same x (sym (put_else flags mine x b ne) ∙ off) (λ k above at. elim (cases_lt i k) [
          | inl later ↦ outside k (omega arith) at
          | inr here ↦
              let is : k ≡ i = omega arith in
              ne (one_value x mine (sym at ∙ (ap (slice_get merged) is ∙ place_at merged i 0 low)))
        ]))

    told_one : AreTold was from now merged (i + 1) (set flags mine b)
    told_one = record { many = length-set flags mine b ∙ told.many; others = told_others; same = told_same }

-- the merged modules are there
pub merged_low : (merged : List ℕ) (n i : ℕ) → All (λ x. x < n) merged → i < length merged → get_or merged i 0 < n
merged_low merged n i within low = all_has (λ (x : ℕ). x < n) merged within (get_or merged i 0) (i, place_at merged i 0 low)

pub told_more : (was : List Sig) (from : List (Option ℕ)) (now : List Sig) (merged : List ℕ) (i : ℕ) (flags : List Bool) (sig mine : Sig) (b : Bool) → All (λ x. x < length now) merged → length from ≡ length now → i < length merged
    → sig ≡ get_or now (get_or merged i 0) sig → mine ≡ sig → ((b ≡ false) ↔ IsOld was (get_or from (get_or merged i 0) None) mine) → AreTold was from now merged i flags → AreTold was from now merged (i + 1) (set flags (get_or merged i 0) b)
told_more was from now merged i flags sig mine b within many low is same tells told =
    let small = merged_low merged (length now) i within low in
    let room : get_or merged i 0 < length flags = let m = told.many in omega arith in
    told_one was from now merged i flags (get_or from (get_or merged i 0) None) sig b low room (place_at from (get_or merged i 0) None (omega arith)) (get_index now (get_or merged i 0) sig small is)
    (subst (λ (g : Sig). (b ≡ false) ↔ IsOld was (get_or from (get_or merged i 0) None) g) same tells) told
