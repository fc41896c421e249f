-- What is dealt out in turn.
use Rattle.std.specs.Prelude.{◌≡◌, ℕ, zero, suc, ◌-◌, ◌<◌, List, [], ◌∷◌, length, slice_get, Some}
use Rattle.lane_asks.specs.declared.dealing.Row.{Row}

module _ {X : Type 0} where
  -- what comes to place k of n: the elements k, k + n, and so on
  abbrev pub dealt : ℕ → ℕ → List X → List X
  dealt n k [] = []
  dealt n zero (x ∷ xs) = x ∷ dealt n (n - 1) xs
  dealt n (suc k) (x ∷ xs) = dealt n k xs

  -- a row with nothing in it
  abbrev pub IsOpen : Row X → Type 0
  IsOpen row = (row.place < row.many) × (row.told.items ≡ [])

  -- a row with nothing in it for each place
  abbrev pub AreOpen : List (Row X) → Type 0
  AreOpen rows = (k : ℕ) (row : Row X) → slice_get rows k ≡ Some row → (row.place ≡ k) × (row.many ≡ length rows) × (row.told.items ≡ [])

  -- each row has what comes to its place
  abbrev pub AreRows : List X → List (Row X) → Type 0
  AreRows all rows = (k : ℕ) (row : Row X) → slice_get rows k ≡ Some row → row.told.items ≡ dealt (length rows) k all

-- each row has as many as come to its place
abbrev pub AreFull : {Q X : Type 0} → List Q → List (Row X) → Type 0
AreFull {Q} {X} asks rows = (k : ℕ) (row : Row X) → slice_get rows k ≡ Some row → length row.told.items ≡ length (dealt (length rows) k asks)
