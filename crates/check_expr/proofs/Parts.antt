-- Parts of a list, and its elements, are no deeper than the list.
use Rattle.std.proofs.Common.{ℕ, zero, suc, ◌<◌, ◌≤◌, ◌≡◌, List, [], ◌∷◌, length, take, drop, get_or, ap, arith}
use denote.Param.Weighed.{most, at_most}

most_drop : {X : Type 0} (size : X → ℕ) (k : ℕ) (xs : List X) → most size (drop k xs) ≤ most size xs
most_drop size zero xs = omega arith
most_drop size (suc k) [] = omega arith
most_drop size (suc k) (x ∷ xs) = omega (arith, most_drop size k xs)

most_take : {X : Type 0} (size : X → ℕ) (n : ℕ) (xs : List X) → most size (take n xs) ≤ most size xs
most_take size zero xs = omega arith
most_take size (suc n) [] = omega arith
most_take size (suc n) (x ∷ xs) = omega (arith, most_take size n xs)

pub most_part : {X : Type 0} (size : X → ℕ) (n k : ℕ) (xs : List X) → most size (take n (drop k xs)) ≤ most size xs
most_part size n k xs = omega (arith, most_take size n (drop k xs), most_drop size k xs)

pub most_at : {X : Type 0} (size : X → ℕ) (xs : List X) (i : ℕ) (x : X) → i < length xs → x ≡ get_or xs i x → size x ≤ most size xs
most_at size xs i x within at = omega (arith, at_most size xs i x within, ap size at)
