-- One more module is checked.
use Rattle.std.proofs.Common.{◌≡◌, ◌≢◌, ℕ, ◌+◌, ◌<◌, List, All, length, set, get_or, slice_get, Option, Some, sym, ap, ◌∙◌, subst, inl, inr, arith, length-set}
use Rattle.std.proofs.lemmas.Bool.{cases_lt}
use Rattle.std.proofs.lemmas.List.Elements.{All-get_or}
use mathlib.Core.Logic.{dite}
use native.Mathlib.Decide.{ℕ_discrete}
use Rattle.heap_core.proofs.Lists.{put_here, put_else}
use Rattle.check_values.specs.declared.faults.Errs.{Errs}
use Rattle.check_values.specs.declared.signatures.Sig.{Sig}
use Rattle.recheck_merging.specs.check_phases.specs.declared.merging.Sources.{Sources}
use Rattle.recheck_merging.specs.check_phases.proofs.Lists.{one_value, value_at}
use Rattle.recheck_checking.specs.Keeping.{IsFilled}
use Rattle.recheck_checking.specs.Checking.{IsCheckedBy, AreCheckedTo}

-- the number of a place is that of a module, and has a slot
pub number_low : (s : Sources) (checked : List ℕ) (i : ℕ) → All (λ x. x < length s.root.modules) checked → i < length checked → get_or checked i 0 < length s.root.modules
number_low s checked i within low = All-get_or (λ (x : ℕ). x < length s.root.modules) checked i 0 low within

pub slot_there : (s : Sources) (sigs : List Sig) (checked : List ℕ) (i x : ℕ) (slots : List (Option Errs)) → AreCheckedTo s sigs checked i slots → x < length s.root.modules → x < length slots
slot_there s sigs checked i x slots to low = let many = to.many in omega arith

module _ (s : Sources) (sigs : List Sig) (checked : List ℕ) (i : ℕ) (errs : Errs) (old : List (Option Errs)) (low : get_or checked i 0 < length s.root.modules) (found : IsCheckedBy s sigs (get_or checked i 0) errs) (to : AreCheckedTo s sigs checked i old) where
  abbrev mine : ℕ
  mine = get_or checked i 0

  abbrev now : List (Option Errs)
  now = set old mine (Some errs)

  here : slice_get now mine ≡ Some (Some errs)
  here = put_here old mine (Some errs) (slot_there s sigs checked i mine old to low)

  stays : (y : ℕ) → y ≢ mine → slice_get now y ≡ slice_get old y
  stays y ne = put_else old mine y (Some errs) ne

  filled : (y : ℕ) → IsFilled old y → IsFilled now y
  filled y is = dite (ℕ_discrete y mine) (λ (same : y ≡ mine). (errs, ap (slice_get now) same ∙ here)) (λ (ne : y ≢ mine). (is.0, stays y ne ∙ is.1))

  right : (y : ℕ) (e : Errs) → slice_get now y ≡ Some (Some e) → IsCheckedBy s sigs y e
  right y e at = dite (ℕ_discrete y mine)
      (λ (same : y ≡ mine). (let there : slice_get now mine ≡ Some (Some e) = ap (slice_get now) (sym same) ∙ at in
      let one : errs ≡ e = one_value errs e (one_value (Some errs) (Some e) (sym here ∙ there)) in
      subst (λ (z : ℕ). IsCheckedBy s sigs z e) (sym same) (subst (λ (z : Errs). IsCheckedBy s sigs mine z) one found)))
      (λ (ne : y ≢ mine). to.right y e (sym (stays y ne) ∙ at))

  so_far : (j y : ℕ) → j < i + 1 → slice_get checked j ≡ Some y → IsFilled now y
  so_far j y less at = elim (cases_lt j i) [
    | inl before ↦ filled y (to.so_far j y before at)
    | inr more ↦ (let place : j ≡ i = omega arith in let same : y ≡ mine = value_at checked j y 0 at ∙ ap (λ (k : ℕ). get_or checked k 0) place in (errs, ap (slice_get now) same ∙ here))
  ]

  one_checked : AreCheckedTo s sigs checked (i + 1) now
  one_checked = record {
    many = length-set old mine (Some errs) ∙ to.many;
    right = right;
    kept = λ y small outside. filled y (to.kept y small outside);
    so_far = so_far;
  }

pub more_checked : (s : Sources) (sigs : List Sig) (checked : List ℕ) (i : ℕ) (errs : Errs) (old : List (Option Errs)) → get_or checked i 0 < length s.root.modules → IsCheckedBy s sigs (get_or checked i 0) errs → AreCheckedTo s sigs checked i old
    → AreCheckedTo s sigs checked (i + 1) (set old (get_or checked i 0) (Some errs))
more_checked s sigs checked i errs old low found to = one_checked s sigs checked i errs old low found to
