-- Which merged signatures are new or differ.
use Rattle.std.specs.Prelude.{◌≡◌, ◌≢◌, ◌<◌, ◌≤◌, ℕ, Bool, true, false, List, length, slice_get, Option, Some}
use Rattle.check_values.specs.declared.signatures.Sig.{Sig}
use Rattle.graph_search.specs.Cycles.{Has}

-- the module of a number was one, and has the signature that it had
abbrev pub IsAsBefore : List Sig → List (Option ℕ) → List Sig → ℕ → Type 0
IsAsBefore was from now x = (o : ℕ) × (sig : Sig) × (slice_get from x ≡ Some (Some o)) × (slice_get was o ≡ Some sig) × (slice_get now x ≡ Some sig)

-- so it is with each module outside of these
pub record IsSameOutside (was : List Sig) (from : List (Option ℕ)) (merged : List ℕ) (now : List Sig) : Type 0 where
  pub same : (x : ℕ) → x < length now → ¬ (Has merged x) → IsAsBefore was from now x

-- ---- one module after the other

-- an old number is given, and its signature is this one
abbrev pub IsOld : List Sig → Option ℕ → Sig → Type 0
IsOld was number sig = (o : ℕ) × (number ≡ Some o) × (slice_get was o ≡ Some sig)

-- the flags are right, those of the merged modules from a place on aside, which are off
pub record AreTold (was : List Sig) (from : List (Option ℕ)) (now : List Sig) (merged : List ℕ) (i : ℕ) (flags : List Bool) : Type 0 where
  pub many : length flags ≡ length now
  pub others : (x o : ℕ) (old new : Sig) → slice_get flags x ≡ Some true → slice_get from x ≡ Some (Some o) → slice_get was o ≡ Some old → slice_get now x ≡ Some new → new ≢ old
  pub same : (x : ℕ) → slice_get flags x ≡ Some false → ((k : ℕ) → i ≤ k → slice_get merged k ≡ Some x → ⊥) → IsAsBefore was from now x
