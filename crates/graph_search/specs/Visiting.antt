-- What a search that goes depth first has still to do: it falls with every step.
use Rattle.std.specs.Prelude.{ℕ, ◌+◌, ◌-◌, Bool, true, false, List, [], ◌∷◌, length, get_or}

-- two for each number that is not seen, and one for each of its edges
abbrev pub unseen : List (List ℕ) → List Bool → ℕ
unseen edges [] = 0
unseen [] (true ∷ seen) = unseen [] seen
unseen [] (false ∷ seen) = 2 + unseen [] seen
unseen (ys ∷ edges) (true ∷ seen) = unseen edges seen
unseen (ys ∷ edges) (false ∷ seen) = 2 + length ys + unseen edges seen

-- one for each number on the path, and one for each of its edges that it has not taken
abbrev pub untaken : List (List ℕ) → List (ℕ × ℕ) → ℕ
untaken edges [] = 0
untaken edges (at ∷ path) = 1 + (length (get_or edges at.0 []) - at.1) + untaken edges path

-- what the search has to do with the numbers that it has not seen, and along its path
abbrev pub still_to_do : List (List ℕ) → List Bool → List (ℕ × ℕ) → ℕ
still_to_do edges seen path = unseen edges seen + untaken edges path
