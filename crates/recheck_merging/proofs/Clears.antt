-- Slots are filled with old signatures, and those of the plan are emptied.
use Rattle.std.proofs.Common.{◌≡◌, ◌≢◌, ℕ, ◌+◌, ◌<◌, ◌≤◌, List, [], map, length, take, set, get_or, slice_get, Option, Some, None, refl, sym, ap, ◌∙◌, subst, inl, inr, arith, length-set}
use mathlib.Core.Logic.{dite}
use native.Mathlib.Decide.{ℕ_discrete}
use Rattle.heap_core.proofs.Lists.{put_here, put_else, get_index}
use Rattle.check_values.specs.declared.signatures.Sig.{Sig}
use Rattle.graph_search.specs.Cycles.{Has}
use Rattle.graph_search.proofs.Lists.{has_more, earlier, this, has_none, take_whole}
use Rattle.check_phases.proofs.Lists.{one_value}
use Rattle.recheck_merging.specs.Clearing.{AreCleared}
use Rattle.recheck_merging.specs.Keeping.{kept_in, AreKept}
use Rattle.recheck_merging.specs.Merging.{IsFilled}
use Rattle.recheck_merging.proofs.Mapped.{get_mapped, length_mapped}

pub none_cleared : (old : List (Option Sig)) → AreCleared [] old old
none_cleared old = record {
  many = refl;
  emptied = λ x low has. absurd (has_none x has);
  others = λ x outside. refl;
}

module _ (numbers : List ℕ) (i : ℕ) (old now : List (Option Sig)) (low : i < length numbers) (cleared : AreCleared (take i numbers) old now) where
  abbrev mine : ℕ
  mine = get_or numbers i 0

  cleared_now : AreCleared (take (i + 1) numbers) old (set now mine None)
  cleared_now = record {
    many = length-set now mine None ∙ cleared.many;
    emptied = λ x small has. dite (ℕ_discrete x mine)
        (λ (same : x ≡ mine). ap (slice_get (set now mine None)) same ∙ put_here now mine None (let many = cleared.many in omega arith))
        (λ (ne : x ≢ mine). put_else now mine x None ne ∙ elim (has_more numbers i x has) [
          | inl before ↦ cleared.emptied x small before
          | inr is ↦ absurd (ne (sym is))
        ]);
    others = λ x outside. dite (ℕ_discrete x mine)
        (λ (same : x ≡ mine). absurd (outside (subst (λ (y : ℕ). Has (take (i + 1) numbers) y) (sym same) (this numbers i low))))
        (λ (ne : x ≢ mine). put_else now mine x None ne ∙ cleared.others x (λ has. outside (earlier numbers i x has)));
  }

-- one more slot
pub more_cleared : (numbers : List ℕ) (i : ℕ) (old now : List (Option Sig)) → i < length numbers → AreCleared (take i numbers) old now → AreCleared (take (i + 1) numbers) old (set now (get_or numbers i 0) None)
more_cleared numbers i old now low cleared = cleared_now numbers i old now low cleared

pub all_cleared : (numbers : List ℕ) (i : ℕ) (old now : List (Option Sig)) → length numbers ≤ i → AreCleared (take i numbers) old now → AreCleared numbers old now
all_cleared numbers i old now all cleared = subst (λ (l : List ℕ). AreCleared l old now) (take_whole numbers i all) cleared

-- what is left is kept
pub kept_outside : (was : List Sig) (from : List (Option ℕ)) (merged view : List ℕ) (old slots : List (Option Sig)) → old ≡ map (kept_in was) from → view ≡ merged → AreCleared view old slots → AreKept was from merged slots
kept_outside was from merged view old slots is same cleared = subst (λ (l : List ℕ). AreKept was from l slots) same (record {
  many = cleared.many ∙ many;
  kept = λ x o at outside. cleared.others x outside ∙ (ap (λ (l : List (Option Sig)). slice_get l x) is ∙ get_mapped (kept_in was) from x o at);
  anew = λ x low has. cleared.emptied x (let m = many in omega arith) has;
})
  where
    many : length old ≡ length from
    many = ap length is ∙ length_mapped (kept_in was) from

-- no slot is empty where all are filled
pub never_empty : (slots : List (Option Sig)) (i : ℕ) (o : Option Sig) → IsFilled slots → i < length slots → o ≡ get_or slots i o → o ≡ None → ⊥
never_empty slots i o filled low is none =
    let made = filled i low in
    let both : Some None ≡ Some (Some made.0) = sym (get_index slots i o low is ∙ ap Some none) ∙ made.1 in
    let z : None ≡ Some made.0 = one_value None (Some made.0) both in
    let f : ⊥ = cc in f
