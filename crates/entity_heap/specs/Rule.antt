-- The rule of the table: what holds of its words, its slots and all views between any two steps.
use Rattle.std.specs.Prelude.{◌≡◌, ◌≢◌, ◌⊎◌, ℕ, ◌+◌, ◌-◌, ◌*◌, ◌/◌, ◌%◌, ◌<◌, ◌≤◌, ◌==◌, nat_le, Bool, true, false, List, [], ◌∷◌, length, slice_get, slice_index, slice_index_or, Option, Some, None, if◌then◌else◌}
use mathlib.Core.Option.{some}
use mathlib.Core.Option as maybe
use lib.ListN.{get_elem?}
use Rattle.std.specs.Arc.{arc_value}
use Rattle.std.specs.declared.sync.Arc.{Arc}
use Rattle.atomic_table.specs.Table.{State}
use Rattle.heap_core.specs.Meaning.{AllFit}
use Rattle.entity_heap.specs.declared.board.Entry.{Entry}
use Rattle.entity_heap.specs.declared.board.Hold.{Hold}
use Rattle.entity_heap.specs.declared.board.Reach.{Reach}
use Rattle.entity_heap.specs.declared.board.Fill.{Fill}
use Rattle.entity_heap.specs.declared.board.Plan.{Plan}
use Rattle.entity_heap.specs.declared.board.Visit.{Visit}
use Rattle.entity_heap.specs.declared.board.Role.{Role}
use Rattle.entity_heap.specs.declared.board.Role.TheVariants.{Spent, Told, Reads, Writes}

-- f of each view, added up
abbrev pub total : {V : Type 0} → (V → ℕ) → List V → ℕ
total f [] = 0
total f (v ∷ vs) = f v + total f vs

-- 1 where the pin is at c
abbrev pub is_at : ℕ → Option ℕ → ℕ
is_at c (Some p) = if p == c then 1 else 0
is_at c None = 0

-- 1 where the pin is just before c
abbrev pub is_before : ℕ → Option ℕ → ℕ
is_before c (Some p) = if (p + 1) == c then 1 else 0
is_before c None = 0

-- the word of the departures from a version
abbrev pub door : ℕ → ℕ
door v = 1 + v % 2

-- the slot b of entity e in lane n, among m entities
abbrev pub spot : ℕ → ℕ → ℕ → ℕ → ℕ
spot m n e b = 2 * (n * m + e) + b

-- the bit of the slot that a reader pinned at p is sent to, by the entity's word
abbrev pub pick : ℕ → ℕ → ℕ
pick w p = if nat_le (w / 2) p then w % 2 else (1 - w % 2)

-- an entity's word at version c, where w is the one of the last commit: staged, it has the next version and the other bit
abbrev pub word_for : ℕ → Bool → ℕ → ℕ
word_for c staged w = if staged then 2 * (c + 1) + (1 - w % 2) else w

-- the word of each entity
abbrev pub word_of : List ℕ → ℕ → ℕ
word_of words e = slice_index words (3 + e)

abbrev pub Homes : Type 0 → Type 0 → Type 0
Homes P Z = List (maybe.Option (Option (Arc P Z)))

-- which seat is the writer's and which each lane's, a version before which each lane has no pin, and the slot that it has taken
pub record Ties : Type 0 where
  pub writer : ℕ
  pub owner : ℕ → ℕ
  pub noted : ℕ → ℕ
  pub held : ℕ → Option Hold

-- a pin is at v or later
abbrev pub IsFrom : ℕ → Option ℕ → Type 0
IsFrom v (Some p) = v ≤ p
IsFrom v None = Unit {0}

module _ {P Z : Type 0} where
  -- the slot k is at home and holds the payload x
  abbrev pub Has : Homes P Z → ℕ → P → Type 0
  Has homes k x = (a : Arc P Z) × (get_elem? homes k ≡ some (some (Some a))) × (arc_value a ≡ x)

module _ {P : Type 0} where
  -- they are shares of one payload
  abbrev pub AreSame : List P → Type 0
  AreSame xs = (i j : ℕ) (x y : P) → slice_get xs i ≡ Some x → slice_get xs j ≡ Some y → x ≡ y

  abbrev pub pinned_at : ℕ → Role P → ℕ
  pinned_at c (Reads l) = is_at c l.pin
  pinned_at c _ = 0

  abbrev pub pinned_before : ℕ → Role P → ℕ
  pinned_before c (Reads l) = is_before c l.pin
  pinned_before c _ = 0

  abbrev pub pins_of : Role P → ℕ
  pins_of (Reads l) = l.pins
  pins_of _ = 0

  abbrev pub lanes_of : Role P → ℕ
  lanes_of (Reads l) = 1
  lanes_of _ = 0

  -- a version that lanes may be pinned at: the current one and, while it isn't drained, the one before
  abbrev pub IsRead : Plan P → ℕ → Type 0
  IsRead q v = (v ≡ q.version) ⊎ ((v + 1 ≡ q.version) × (q.drained ≡ false))

  -- the entity is staged
  abbrev pub is_staged : Plan P → ℕ → Bool
  is_staged q e = slice_index_or q.staged e false

  -- its word at the last commit
  abbrev pub old_word : Plan P → ℕ → ℕ
  old_word q e = slice_index q.words e

  -- no lane and not the writer has the slot k
  abbrev pub IsFree : Plan P → (ℕ → Option Hold) → ℕ → Type 0
  IsFree q held k = ((n : ℕ) (h : Hold) → held n ≡ Some h → h.slot ≢ k) × ((w : Reach) → q.hand ≡ Some w → w.slot ≢ k)

  -- each entry is a version of the writer's, with its state
  abbrev pub AreStates : Plan P → List (Entry P) → Type 0
  AreStates q xs = (i : ℕ) (x : Entry P) → slice_get xs i ≡ Some x → (x.version ≤ q.version) × (slice_get q.history x.version ≡ Some x.state)

-- The gate and the departures. The gate has the current version and its arrivals: the lanes pinned at it, and those that have left
pub record Gated {P : Type 0} (q : Plan P) (words : List ℕ) (views : List (Role P)) : Type 0 where
  pub arrivals : ℕ
  pub gate : slice_index words 0 ≡ q.version * 4294967296 + arrivals
  pub counted : arrivals ≡ total (pinned_at q.version) views + slice_index words (door q.version)
  pub small : arrivals ≤ total pins_of views
  pub few : (total lanes_of views ≤ q.made) × (q.made ≤ q.lanes) × (q.lanes ≤ 16)
  -- what the version before is owed
  pub owing : q.drained ≡ false → q.owed ≡ total (pinned_before q.version) views + slice_index words (door (q.version + 1))
  pub cleared : q.reset ≡ true → (q.drained ≡ true) × (slice_index words (door (q.version + 1)) ≡ 0)
  pub bounds : (q.version < 2147483648) × (q.owed < 4294967296)

-- The writer's states are lawful: they fit, an entity's payload is that of each state since its word's version, and what is not staged stays
pub record Lawful {P : Type 0} (fits : ℕ → P → ℕ → P → Type 0) (q : Plan P) : Type 0 where
  pub lengths : (length q.next ≡ q.entities) × (length q.words ≡ q.entities) × (length q.staged ≡ q.entities) × (0 < q.entities)
  pub states : length q.history ≡ q.version + 1
  pub fit : (v : ℕ) (st : List P) → slice_get q.history v ≡ Some st → (length st ≡ q.entities) × AllFit fits st
  pub committed : slice_get q.history q.version ≡ Some q.committed
  pub old : (e : ℕ) → old_word q e / 2 ≤ q.version
  pub stable : (e v : ℕ) (st : List P) → e < q.entities → old_word q e / 2 ≤ v → slice_get q.history v ≡ Some st → slice_get st e ≡ slice_get q.committed e
  pub unstaged : (e : ℕ) → is_staged q e ≡ false → slice_get q.next e ≡ slice_get q.committed e
  -- nothing is staged before the reset, and version 0 needs none
  pub fresh : q.reset ≡ false → (e : ℕ) → is_staged q e ≡ false
  pub first : q.version ≡ 0 → q.reset ≡ true

-- The slots. held n is the slot that lane n has taken, and word e the word of entity e
pub record Slotted {P Z : Type 0} (q : Plan P) (held : ℕ → Option Hold) (word : ℕ → ℕ) (homes : Homes P Z) : Type 0 where
  pub worded : (e : ℕ) → e < q.entities → word e ≡ word_for q.version (is_staged q e) (old_word q e)
  -- each reader's slot has the payload of its version
  pub served : (n e v : ℕ) (st : List P) (x : P) → n < q.lanes → e < q.entities → IsRead q v → slice_get q.history v ≡ Some st → slice_get st e ≡ Some x
      → ((h : Hold) → held n ≡ Some h → h.slot ≢ spot q.entities n e (pick (word e) v)) → Has homes (spot q.entities n e (pick (word e) v)) x
  pub at_home : (k : ℕ) → k < 2 * (q.lanes * q.entities) → IsFree q held k → (y : Option (Arc P Z)) × (get_elem? homes k ≡ some (some y))
  pub taken : (n : ℕ) (h : Hold) → held n ≡ Some h → (n < q.lanes) × (h.entity < q.entities) × IsRead q h.pin × (h.slot ≡ spot q.entities n h.entity (pick (word h.entity) h.pin))
  -- the writer's slot is one to which no reader pinned at the current version is sent
  pub reached : (w : Reach) → q.hand ≡ Some w → (f : Fill P) × (q.fill ≡ Some f) × (w.lane ≡ length f.payloads) × (w.lane < q.lanes) × (w.slot ≡ spot q.entities w.lane f.entity (1 - pick (word f.entity) q.version))
  -- a staged entity's other slots have what a commit would commit
  pub published : (n e : ℕ) (x : P) → n < q.lanes → e < q.entities → is_staged q e ≡ true → ((f : Fill P) → q.fill ≡ Some f → f.entity ≢ e) → slice_get q.next e ≡ Some x → Has homes (spot q.entities n e (1 - pick (word e) q.version)) x
  pub filling : (f : Fill P) → q.fill ≡ Some f → (q.reset ≡ true) × (f.entity < q.entities) × (length f.payloads ≤ q.lanes) × AreSame f.payloads
  pub filled : (n : ℕ) (f : Fill P) (x : P) → q.fill ≡ Some f → slice_get f.payloads n ≡ Some x → Has homes (spot q.entities n f.entity (1 - pick (word f.entity) q.version)) x

module _ {P : Type 0} where
  -- a pin is at a version that may be read, and its state is known
  abbrev pub IsPin : Plan P → List P → Option ℕ → Type 0
  IsPin q state None = Unit {0}
  IsPin q state (Some p) = IsRead q p × (slice_get q.history p ≡ Some state)

  pub record IsLane (q : Plan P) (t : Ties) (seat : ℕ) (l : Visit P) : Type 0 where
    pub number : l.number < q.made
    pub entities : l.entities ≡ q.entities
    pub owner : t.owner l.number ≡ seat
    pub pins : l.pins ≤ 134217728
    pub pin : IsPin q l.state l.pin
    pub noted : IsFrom (t.noted l.number) l.pin
    pub seen : (l.seen ≤ q.version) × (l.floor ≤ q.version)
    pub entries : AreStates q l.entries
    pub hold : t.held l.number ≡ l.hold
    pub held : (h : Hold) → l.hold ≡ Some h → l.pin ≡ Some h.pin

  abbrev pub Knows : Plan P → Ties → ℕ → Role P → Type 0
  Knows q t seat Spent = Unit {0}
  Knows q t seat (Told x) = (x.version ≤ q.version) × (x.at ≤ t.noted x.lane) × AreStates q x.entries
  Knows q t seat (Reads l) = IsLane q t seat l
  Knows q t seat (Writes w) = (w ≡ q) × (seat ≡ t.writer)

-- The views. The writer's is there
pub record Seated {P : Type 0} (q : Plan P) (t : Ties) (views : List (Role P)) : Type 0 where
  pub each : (j : ℕ) (v : Role P) → get_elem? views j ≡ some v → Knows q t j v
  pub writer : get_elem? views t.writer ≡ some (Writes q)
  pub holders : (n : ℕ) (h : Hold) → t.held n ≡ Some h → (l : Visit P) × (get_elem? views (t.owner n) ≡ some (Reads l)) × (l.number ≡ n)
  pub noted : (n : ℕ) → (slice_index q.met n ≤ t.noted n) × (t.noted n ≤ q.version)
  pub heard : AreStates q q.heard

pub record Kept {P Z : Type 0} (fits : ℕ → P → ℕ → P → Type 0) (s : State (Option (Arc P Z)) (Role P)) : Type 0 where
  pub plan : Plan P
  pub ties : Ties
  pub sizes : (length s.words ≡ 3 + plan.entities) × (length s.homes ≡ 2 * (plan.lanes * plan.entities))
  pub gate : Gated plan s.words s.views
  pub world : Lawful fits plan
  pub slots : Slotted plan ties.held (word_of s.words) s.homes
  pub seats : Seated plan ties s.views
