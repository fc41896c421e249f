-- What a deque still holds, once all passes are gathered.
use Rattle.std.specs.Prelude.{◌≡◌, ℕ, ◌-◌, ◌≤◌, sum_by}
use Rattle.number_draws.specs.declared.hand.Hand.{Hand}
use Rattle.number_draws.specs.Hands.{all_parts}

-- all parts are here, and no more was taken than what was put
pub record IsWhole (v : Hand) : Type 0 where
  pub parts : v.parts ≡ all_parts
  pub taken : (h : ℕ → ℕ) → sum_by h v.taken ≤ sum_by h v.put

-- all that was put was taken
abbrev pub AllTaken : Hand → Type 0
AllTaken v = (h : ℕ → ℕ) → sum_by h v.put ≡ sum_by h v.taken

-- how many numbers were not taken
abbrev pub left_in : Hand → ℕ
left_in v = sum_by (λ _. 1) v.put - sum_by (λ _. 1) v.taken
