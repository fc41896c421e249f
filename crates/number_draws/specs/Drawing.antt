-- What a call tells a pass.
use Rattle.std.specs.Prelude.{◌≡◌, ℕ, ◌+◌, ◌≤◌, List, ◌++◌, sum_by}
use Rattle.number_draws.specs.declared.hand.Hand.{Hand}
use Rattle.number_draws.specs.Hands.{all_parts, hand}

-- more was put
abbrev pub Puts : Hand → List ℕ → Hand → Type 0
Puts v xs w = w ≡ hand v.parts (v.put ++ xs) v.taken

-- More was taken, none of it twice: what this pass has taken is no more than what was put.
abbrev pub Takes : Hand → List ℕ → Hand → Type 0
Takes v xs w = (w ≡ hand v.parts v.put (v.taken ++ xs)) × ((h : ℕ → ℕ) → sum_by h v.taken + sum_by h xs ≤ sum_by h v.put)

-- the pass with all parts knows that what was put was taken, or is held
abbrev pub Accounts : Hand → List ℕ → Type 0
Accounts v items = v.parts ≡ all_parts → (h : ℕ → ℕ) → sum_by h v.put ≡ sum_by h v.taken + sum_by h items

-- and where nothing is held, that all was taken
abbrev pub AllTaken : Hand → Type 0
AllTaken v = v.parts ≡ all_parts → (h : ℕ → ℕ) → sum_by h v.put ≡ sum_by h v.taken
