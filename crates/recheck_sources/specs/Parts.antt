-- Parts of the modules of the edited program, beside those of the modules that they were.
use Rattle.std.specs.Prelude.{◌≡◌, ◌≢◌, ℕ, Bool, true, false, List, length, slice_get, Option, Some}

-- There is a part for each module, and one whose flag is off has the part of the module that it was.
pub record AreKeptBy {X : Type 0} (was : List X) (from : List (Option ℕ)) (flags : List Bool) (now : List X) : Type 0 where
  pub many : length now ≡ length from
  pub kept : (x : ℕ) → slice_get flags x ≡ Some false → (o : ℕ) × (part : X) × (slice_get from x ≡ Some (Some o)) × (slice_get was o ≡ Some part) × (slice_get now x ≡ Some part)

-- There is a flag for each part. It is on exactly where the module is new, or has another part than the module that it was.
pub record TellsOthers {X : Type 0} (was : List X) (from : List (Option ℕ)) (now : List X) (flags : List Bool) : Type 0 where
  pub many : length flags ≡ length now
  pub others : (x o : ℕ) (old new : X) → slice_get flags x ≡ Some true → slice_get from x ≡ Some (Some o) → slice_get was o ≡ Some old → slice_get now x ≡ Some new → new ≢ old
  pub same : (x : ℕ) → slice_get flags x ≡ Some false → (o : ℕ) × (part : X) × (slice_get from x ≡ Some (Some o)) × (slice_get was o ≡ Some part) × (slice_get now x ≡ Some part)
