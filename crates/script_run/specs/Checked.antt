-- How many errors the full check of a program has. There is one such check, as far as what it says of each module.
use Rattle.std.specs.Prelude.{◌≡◌, ℕ, List}
use Rattle.flow_base.specs.Program.{Program}
use Rattle.program_check.specs.Full.{Results, IsFull}
use Rattle.program_check.specs.Status.{error_count}

-- the full check of a program has so many errors
abbrev pub HasErrorCount : Program → ℕ → Type 0
HasErrorCount program errors = ∥ ((results : List Results) × IsFull program results × (errors ≡ error_count results)) ∥₁
