-- What contracts see of one who is asked whether a run is to stop.
use Rattle.std.specs.Prelude.{◌≡◌, ℕ, ◌<◌, Bool, IsTrue, ◌↔◌, ◌&&◌, nat_lt, nat_le, Option, if◌then◌else◌}
use Rattle.flow_base.specs.Causes.{raised, Counts}

-- at which question it says yes, counted from 1 and 0 for none, where it tells it; how often it was asked, and how often it said yes,
-- both up to 2^64 - 1
pub record StopSeen : Type 0 where
  pub told : Option ℕ
  pub questions : ℕ
  pub yes_answers : ℕ

abbrev pub stop_seen : Option ℕ → ℕ → ℕ → StopSeen
stop_seen told questions yes_answers = record { told = told; questions = questions; yes_answers = yes_answers }

-- how often one who says yes at this question alone has said so, after so many questions
abbrev pub yes_answers_by : ℕ → ℕ → ℕ
yes_answers_by question questions = if nat_lt 0 question && nat_le question questions then 1 else 0

-- One who tells its question says yes at it, and at no other.
abbrev pub SaysYesAtItsQuestion : Type 0
SaysYesAtItsQuestion =
    (question before now : ℕ) (b : Bool) → now ≡ raised before → Counts (IsTrue b) (yes_answers_by question before) (yes_answers_by question now) →
    (IsTrue b) ↔ ((before < question) × (now ≡ question))
