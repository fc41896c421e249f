-- What contracts see of a snapshot, and what it promises as a reader.
use Rattle.std.specs.Prelude.{◌≡◌, ℕ, ◌+◌, ◌^◌, ◌<◌, List, length}
use Rattle.std.proofs.Common.{arith, ap}
use Rattle.atomic_table.specs.Seated.{TableId}
use Rattle.heap_core.specs.Meaning.{AllFit}
use Rattle.heap_core.specs.declared.traits.Program.{Ghosts}
use Rattle.entity_heap.specs.declared.board.Visit.{Visit}
use Rattle.entity_heap.specs.declared.heap.Heap.{Heap}
use Rattle.entity_heap.specs.declared.heap.Snapshot.{Snapshot}
use Rattle.entity_heap.specs.Plans.{visit_of}

module _ {P : Type 0} where
  pub snapshot_fit : (l : Visit P) (fits : ℕ → P → ℕ → P → Type 0) → (length l.state ≡ l.entities) × (0 < l.entities) → AllFit fits l.state → (0 < length l.state) × AllFit fits l.state
  snapshot_fit l fits sized fit = (let a = sized.0 in let b = sized.1 in omega arith, fit)

  pub snapshot_numbered : (l : Visit P) (id other : TableId) (entities : ℕ) → length l.state ≡ l.entities → id ≡ other → id.words ≡ 3 + l.entities → other.words ≡ 3 + entities → entities < 2 ^ 16 → length l.state < 2 ^ 32
  snapshot_numbered l id other entities sized same wide words small = let w : id.words ≡ other.words = ap (λ (t : TableId). t.words) same in omega arith

module _ {P : Type 0} {G : Ghosts P} where
  -- the view of the lane that the snapshot is of
  abbrev pub visit_read : Snapshot P G → Visit P
  visit_read s = visit_of s.core.place.me.0

  -- the version that it has pinned
  abbrev pub version_read : Snapshot P G → ℕ
  version_read s = s.version

  -- the lane and the heap that it is of
  abbrev pub lane_read : Snapshot P G → ℕ
  lane_read s = s.home.ghost_name

  abbrev pub heap_read : Snapshot P G → Heap P
  heap_read s = s.heap.now
