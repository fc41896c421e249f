-- What the lanes of a heap have answered, and what they have once more asks are answered.
use Rattle.std.specs.Prelude.{◌≡◌, ℕ, suc, ◌+◌, ◌^◌, ◌<◌, ◌≤◌, List, [], ◌∷◌, length, slice_get, Some, refl}
use Rattle.std.specs.Coded.{Coded, code_by, coded×, coded_ℕ}
use Rattle.std.specs.List.{AllByRecursion}
use Rattle.lane_asks.specs.Dealing.{dealt}
use Rattle.lane_asks.specs.Telling.{RisesFrom}

-- what a lane has answered: how many asks, and the version that the last answer was from, or 0 where it has answered none
pub record LaneUse : Type 0 where
  pub pins : ℕ
  pub last : ℕ

-- it is told apart from others by its parts
abbrev pub lane_use_code : Coded LaneUse
lane_use_code = code_by (ℕ × ℕ) (coded× coded_ℕ coded_ℕ) (λ lane. (lane.pins, lane.last)) (λ p. record { pins = p.0; last = p.1 }) (λ _. refl)

-- a lane that has answered nothing
abbrev pub new_lane : LaneUse
new_lane = record { pins = 0; last = 0 }

-- after answers from these versions, one after the other
abbrev pub use_after : LaneUse → List ℕ → LaneUse
use_after lane [] = lane
use_after lane (version ∷ versions) = use_after (record { pins = lane.pins + 1; last = version }) versions

-- of n lanes those from place k on, after the asks that come to them
abbrev pub uses_from : ℕ → ℕ → List LaneUse → List ℕ → List LaneUse
uses_from n k [] versions = []
uses_from n k (lane ∷ lanes) versions = use_after lane (dealt n k versions) ∷ uses_from n (suc k) lanes versions

-- Lanes after asks that were answered from these versions, ask i on the lane at place i mod the number of lanes.
abbrev pub lanes_after : List LaneUse → List ℕ → List LaneUse
lanes_after lanes versions = uses_from (length lanes) 0 lanes versions

-- On no lane an answer is from an earlier version than the one before it.
abbrev pub NoneFalls : List LaneUse → List ℕ → Type 0
NoneFalls lanes versions = (k : ℕ) (lane : LaneUse) → slice_get lanes k ≡ Some lane → RisesFrom lane.last (dealt (length lanes) k versions)

-- each lane may answer so many more
abbrev pub MayAnswer : ℕ → List LaneUse → Type 0
MayAnswer asks lanes = AllByRecursion (λ lane. lane.pins + asks < 2 ^ 27) lanes

-- no lane has answered more than so many
abbrev pub AnsweredAtMost : ℕ → List LaneUse → Type 0
AnsweredAtMost most lanes = AllByRecursion (λ lane. lane.pins ≤ most) lanes

-- the last answer of no lane is from a later version
abbrev pub AnsweredUpTo : ℕ → List LaneUse → Type 0
AnsweredUpTo version lanes = AllByRecursion (λ lane. lane.last ≤ version) lanes
