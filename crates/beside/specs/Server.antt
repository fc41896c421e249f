-- The heap of modules as it runs, and what is answered on its lanes.
use Rattle.std.specs.Prelude.{◌≡◌, ◌⊎◌, ℕ, List, map}
use Rattle.heap_core.specs.declared.traits.Program.{Ghosts}
use Rattle.request_core.specs.payloads.specs.declared.payload.Payload.{Payload}
use Rattle.asks.specs.declared.ask.Ask.{Ask}
use Rattle.request_core.specs.answers_law.specs.Answers.{Answered}
use Rattle.lane_asks.specs.declared.told.Told.{Told}
use Rattle.entity_heap.specs.declared.heap.Lane.{Lane}
use Rattle.entity_heap.specs.declared.heap.Writer.{Writer}
use Rattle.entity_heap.specs.Lanes.{visit_in}
use Rattle.entity_heap.specs.Writers.{plan_in, meaning_in}
use Rattle.beside.specs.Beside.{IsServer, AnswersFrom}
use Rattle.beside.specs.Uses.{LaneUse}
use Rattle.beside.specs.declared.serving.Server.{Server}

-- it has the writer of its heap, and all the lanes in their order
abbrev pub IsRunning : Server → Type 0
IsRunning s = IsServer s.heap s.writer s.lanes

-- a version and its state
pub record Moment : Type 0 where
  pub version : ℕ
  pub state : List Payload

-- an answer of this moment: it is from the version and from its state
pub record IsToldOf (moment : Moment) (ask : Ask) (told : Told Answered) : Type 0 where
  pub version : told.version ≡ moment.version
  pub answer : AnswersFrom moment.state ask told.answer

-- an answer of either of two moments
abbrev pub IsToldOfEither : Moment → Moment → Ask → Told Answered → Type 0
IsToldOfEither before now ask told = IsToldOf before ask told ⊎ IsToldOf now ask told

module _ {G : Ghosts Payload} where
  -- the version that the writer has committed last, with its state
  abbrev pub moment_in : Writer Payload G → Moment
  moment_in w = let m = meaning_in w in record { version = m.version; state = m.committed }

  -- the writer of as many lanes, with the same states
  pub record IsSameWriter (old new : Writer Payload G) : Type 0 where
    pub meaning : meaning_in new ≡ meaning_in old
    pub history : (plan_in new).history ≡ (plan_in old).history
    pub made : (plan_in new).made ≡ (plan_in old).made

module _ {P : Type 0} {G : Ghosts P} where
  -- what the lanes have answered, which is what they have pinned
  abbrev pub use_of : Lane P G → LaneUse
  use_of l = record { pins = (visit_in l).pins; last = (visit_in l).seen }

  abbrev pub uses_of : List (Lane P G) → List LaneUse
  uses_of lanes = map use_of lanes
