-- Which of the old errors are kept.
use Rattle.std.specs.Prelude.{◌≡◌, ◌<◌, ℕ, List, ◌∷◌, length, slice_get, slice_set, Option, Some, None}
use Rattle.check_values.specs.declared.faults.Errs.{Errs}
use Rattle.graph_search.specs.Cycles.{Has}

-- the old errors of a module, if it was a module
abbrev pub kept_in : List Errs → Option ℕ → Option Errs
kept_in was None = None
kept_in was (Some o) = slice_get was o

-- the old errors of each module outside of these, and none of theirs
pub record AreKept (was : List Errs) (from : List (Option ℕ)) (checked : List ℕ) (slots : List (Option Errs)) : Type 0 where
  pub many : length slots ≡ length from
  pub kept : (x : ℕ) (o : Option ℕ) → slice_get from x ≡ Some o → ¬ (Has checked x) → slice_get slots x ≡ Some (kept_in was o)
  pub anew : (x : ℕ) → x < length from → Has checked x → slice_get slots x ≡ Some None

-- nothing stands in the slots of these numbers any more, and the others stay
pub record AreCleared (numbers : List ℕ) (old new : List (Option Errs)) : Type 0 where
  pub many : length new ≡ length old
  pub emptied : (x : ℕ) → x < length old → Has numbers x → slice_get new x ≡ Some None
  pub others : (x : ℕ) → ¬ (Has numbers x) → slice_get new x ≡ slice_get old x

-- errors stand in a slot, and in each slot
abbrev pub IsFilled : List (Option Errs) → ℕ → Type 0
IsFilled slots x = (errs : Errs) × (slice_get slots x ≡ Some (Some errs))

abbrev pub AreFilled : List (Option Errs) → Type 0
AreFilled slots = (x : ℕ) → x < length slots → IsFilled slots x

-- errors are put into the slots of some numbers, one after the other
abbrev pub put_all : List ℕ → List Errs → List (Option Errs) → List (Option Errs)
put_all (x ∷ numbers) (errs ∷ errors) slots = put_all numbers errors (slice_set slots x (Some errs))
put_all numbers errors slots = slots
