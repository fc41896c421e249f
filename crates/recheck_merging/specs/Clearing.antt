-- Slots that are emptied.
use Rattle.std.specs.Prelude.{◌≡◌, ◌<◌, ℕ, List, length, slice_get, Option, Some, None}
use Rattle.check_values.specs.declared.signatures.Sig.{Sig}
use Rattle.graph_search.specs.Cycles.{Has}

-- nothing stands in the slots of these numbers any more, and the others stay
pub record AreCleared (numbers : List ℕ) (old new : List (Option Sig)) : Type 0 where
  pub many : length new ≡ length old
  pub emptied : (x : ℕ) → x < length old → Has numbers x → slice_get new x ≡ Some None
  pub others : (x : ℕ) → ¬ (Has numbers x) → slice_get new x ≡ slice_get old x
