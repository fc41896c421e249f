-- What the passes of a deque know of its numbers.
use Rattle.std.specs.Prelude.{◌≡◌, ℕ, ◌+◌, ◌^◌, ◌<◌, List, [], ◌∷◌, sum_by}
use mathlib.Core.Option.{some}
use lib.ListN.{get_elem?}
use Rattle.number_draws.specs.declared.hand.Hand.{Hand}

-- the right to know all numbers of a deque has so many parts, more than there are passes
abbrev pub all_parts : ℕ
all_parts = 2 ^ 64

abbrev pub hand : ℕ → List ℕ → List ℕ → Hand
hand parts put taken = record { parts = parts; put = put; taken = taken }

-- f of each, added up
abbrev pub total : (Hand → ℕ) → List Hand → ℕ
total f [] = 0
total f (v ∷ views) = f v + total f views

-- a pass with a part knows what was put, and one with none has taken nothing
abbrev pub Fits : List ℕ → Hand → Type 0
Fits put v = (0 < v.parts → v.put ≡ put) × (v.parts ≡ 0 → v.taken ≡ [])

-- each number that was put was taken, by one pass and once, or is held: they weigh the same, however numbers are weighed
abbrev pub Drawn : List ℕ → List Hand → Type 0
Drawn items views =
    (put : List ℕ)
    × (total (λ v. v.parts) views ≡ all_parts)
    × ((h : ℕ → ℕ) → sum_by h put ≡ total (λ v. sum_by h v.taken) views + sum_by h items)
    × ((port : ℕ) (v : Hand) → get_elem? views port ≡ some v → Fits put v)
