-- The pure world that a table stands for.
use Rattle.std.specs.Prelude.{◌≡◌, ℕ, ◌+◌, ◌-◌, ◌/◌, ◌<◌, ◌≤◌, Bool, true, false, List, [], ◌∷◌, ◌++◌, map, length, replicate, slice_get, slice_set, Option, Some, None, if◌then◌else◌}
use mathlib.Core.Option.{some}
use lib.ListN.{get_elem?}
use Rattle.heap_world.specs.World.{PureWorld}
use Rattle.entity_heap.specs.declared.board.Fill.{Fill}
use Rattle.entity_heap.specs.declared.board.Plan.{Plan}
use Rattle.entity_heap.specs.declared.board.Visit.{Visit}
use Rattle.entity_heap.specs.declared.board.Role.{Role}
use Rattle.entity_heap.specs.declared.board.Role.TheVariants.{Reads}

-- What the writer has beside its seat: whether a transaction is open, and the entity that it is staging, with the new payload
pub record Own (P : Type 0) : Type 0 where
  pub is_open : Bool
  pub begun : Option (ℕ × P)

-- the rows of n lanes, the first k of which hold what is being staged at e
abbrev pub filled_to : ℕ → ℕ → List Bool → ℕ → List (List Bool)
filled_to n k flags e = replicate k (slice_set flags e true) ++ replicate (n - k) (slice_set flags e false)

module _ {P : Type 0} where
  -- the staged payloads
  abbrev pub pending_of : List Bool → List P → List (Option P)
  pending_of (b ∷ bs) (x ∷ xs) = (if b then Some x else None) ∷ pending_of bs xs
  pending_of _ _ = []

  -- the slots of entity e are being filled with x, and those of k lanes are
  abbrev pub IsFilling : ℕ → P → ℕ → Option (Fill P) → Type 0
  IsFilling e x k None = k ≡ 0
  IsFilling e x k (Some f) = (f.entity ≡ e) × (f.payloads ≡ replicate k x)

  -- what pends, and which lanes hold it
  abbrev pub IsPending : Option (ℕ × P) → Plan P → PureWorld P → Type 0
  IsPending None q w = (q.fill ≡ None) × (w.pending ≡ pending_of q.staged q.next) × (w.filled ≡ replicate q.lanes q.staged)
  IsPending (Some s) q w = (s.0 < q.entities) × (w.pending ≡ slice_set (pending_of q.staged q.next) s.0 (Some s.1))
      × ((k : ℕ) × (k ≤ q.lanes) × IsFilling s.0 s.1 k q.fill × (w.filled ≡ filled_to q.lanes k q.staged s.0))

  -- the pins are those that the lanes' views have
  pub record ArePins (views : List (Role P)) (pins : List (Option ℕ)) : Type 0 where
    pub each : (j : ℕ) (l : Visit P) → get_elem? views j ≡ some (Reads l) → slice_get pins l.number ≡ Some l.pin
    pub only : (n c : ℕ) → slice_get pins n ≡ Some (Some c) → (j : ℕ) × (l : Visit P) × (get_elem? views j ≡ some (Reads l)) × (l.number ≡ n) × (l.pin ≡ Some c)

  -- the world has the states that the writer knows, its own fields, and the lanes' pins
  pub record IsWorldOf (own : Own P) (q : Plan P) (views : List (Role P)) (w : PureWorld P) : Type 0 where
    pub sizes : (w.entities ≡ q.entities) × (w.lanes ≡ q.lanes) × (length w.pins ≡ q.lanes)
    pub history : w.history ≡ q.history
    pub versions : w.versions ≡ map (λ k. k / 2) q.words
    pub is_open : w.is_open ≡ own.is_open
    pub drained : w.drained ≡ q.drained
    pub published : w.published ≡ q.staged
    pub pending : IsPending own.begun q w
    pub pins : ArePins views w.pins
