-- What is asked of a heap, answered on its lanes.
use Rattle.std.specs.Prelude.{◌≡◌, ℕ, ◌+◌, ◌^◌, ◌<◌, ◌≤◌, List, [], ◌∷◌, length, slice_get, Some}
use Rattle.heap_core.specs.declared.traits.Program.{Ghosts}
use Rattle.entity_heap.specs.declared.board.Visit.{Visit}
use Rattle.entity_heap.specs.declared.heap.Heap.{Heap}
use Rattle.entity_heap.specs.declared.heap.Lane.{Lane}
use Rattle.entity_heap.specs.Plans.{after_pin, after_unpin}
use Rattle.entity_heap.specs.Lanes.{visit_in, IsLaneOf}
use Rattle.lane_asks.specs.Each.{AllDone}
use Rattle.lane_asks.specs.Dealing.{dealt, IsOpen}
use Rattle.lane_asks.specs.declared.dealing.Row.{Row}
use Rattle.lane_asks.specs.declared.told.Told.{Told}

-- none is less than the one before it, the first of them than v
abbrev pub RisesFrom : ℕ → List ℕ → Type 0
RisesFrom v [] = Unit {0}
RisesFrom v (w ∷ ws) = (v ≤ w) × RisesFrom w ws

-- the last of them, and v where there is none
abbrev pub last_of : ℕ → List ℕ → ℕ
last_of v [] = v
last_of v (w ∷ ws) = last_of w ws

abbrev pub versions : {X : Type 0} → List (Told X) → List ℕ
versions [] = []
versions (t ∷ ts) = t.version ∷ versions ts

module _ {P A Q X : Type 0} (answers : List P → Q → X → Type 0) (works : Q → X → A → A → Type 0) where
  -- One ask was answered on a lane: a version was pinned, no earlier than those that the lane knew, its state was answered from, and the
  -- lane has recorded both.
  pub record IsTold (old new : Visit P) (before now : A) (ask : Q) (told : Told X) : Type 0 where
    pub state : List P
    pub visit : new ≡ after_unpin (after_pin told.version state old)
    pub since : (old.seen ≤ told.version) × (old.floor ≤ told.version)
    pub answer : answers state ask told.answer
    pub work : works ask told.answer before now

  -- some were, one after the other
  abbrev pub AreTold : Visit P → Visit P → A → A → List Q → List (Told X) → Type 0
  AreTold old new before now [] [] = (new ≡ old) × (now ≡ before)
  AreTold old new before now (ask ∷ asks) (told ∷ more) = (v : Visit P) × (a : A) × IsTold old v before a ask told × AreTold v new a now asks more
  AreTold old new before now asks more = ⊥

  -- on a lane what was dealt to its row
  abbrev pub RowTold : {G : Ghosts P} → List Q → Lane P G → Lane P G → A → A → Row (Told X) → Row (Told X) → Type 0
  RowTold asks l m before now row after = AreTold (visit_in l) (visit_in m) before now (dealt row.many row.place asks) after.told.items

  -- on each of some lanes
  abbrev pub AllTold : {G : Ghosts P} → List Q → List (Lane P G) → List (Lane P G) → List A → List A → List (Row (Told X)) → List (Row (Told X)) → Type 0
  AllTold asks ls ms before now rows after = AllDone (RowTold asks) ls ms before now rows after

module _ {A Q X : Type 0} (works : Q → X → A → A → Type 0) where
  -- what the one who answers did for each ask, one after the other
  abbrev pub HaveWorked : A → A → List Q → List (Told X) → Type 0
  HaveWorked before now [] [] = now ≡ before
  HaveWorked before now (ask ∷ asks) (told ∷ more) = (a : A) × works ask told.answer before a × HaveWorked a now asks more
  HaveWorked before now asks more = ⊥

module _ {P A Q X : Type 0} (works : Q → X → A → A → Type 0) where
  -- A lane after its asks: a pin for each, and no version before the last one seen. Seen is the version of the last answer.
  pub record HasTold (old new : Visit P) (before now : A) (asks : List Q) (told : List (Told X)) : Type 0 where
    pub number : new.number ≡ old.number
    pub pins : new.pins ≡ old.pins + length asks
    pub rises : RisesFrom old.seen (versions told)
    pub seen : new.seen ≡ last_of old.seen (versions told)
    pub worked : HaveWorked works before now asks told

  -- so for each of some lanes, which were met at a version then
  abbrev pub AllHaveTold : {G : Ghosts P} → ℕ → List (Lane P G) → List (Lane P G) → List A → List A → List Q → List (Told X) → Type 0
  AllHaveTold {G} version old new before now asks told =
      (k : ℕ) (l : Lane P G) (a : A) → slice_get old k ≡ Some l → slice_get before k ≡ Some a
      → (m : Lane P G) × (b : A) × (slice_get new k ≡ Some m) × (slice_get now k ≡ Some b) × HasTold (visit_in l) (visit_in m) a b (dealt (length old) k asks) (dealt (length old) k told) × ((visit_in m).floor ≡ version)

module _ {P Q X : Type 0} (answers : List P → Q → X → Type 0) where
  -- an ask was answered from one of the states, at a version within bounds
  pub record IsToldFrom (states : List (List P)) (since until : ℕ) (ask : Q) (told : Told X) : Type 0 where
    pub within : (since ≤ told.version) × (told.version ≤ until)
    pub state : List P
    pub committed : slice_get states told.version ≡ Some state
    pub answer : answers state ask told.answer

module _ {P : Type 0} {G : Ghosts P} where
  -- a lane of the heap, which may pin so many times more
  abbrev pub MayPin : Heap P → ℕ → Lane P G → Type 0
  MayPin h n l = IsLaneOf h l × ((visit_in l).pins + n < 2 ^ 27)

  -- and its row, with nothing in it
  abbrev pub IsReady : {Q X : Type 0} → Heap P → List Q → Lane P G → Row X → Type 0
  IsReady h asks l row = MayPin h (length asks) l × IsOpen row

  -- the same lane of the heap
  abbrev pub IsSameLane : Heap P → Lane P G → Lane P G → Type 0
  IsSameLane h l m = IsLaneOf h m × ((visit_in m).number ≡ (visit_in l).number)
