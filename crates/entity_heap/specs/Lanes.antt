-- What contracts see of a lane: its table and its view. Both are blank while a snapshot has its core.
use Rattle.std.specs.Prelude.{◌≡◌, ℕ, List, slice_get, Option, Some, None}
use Rattle.atomic_table.specs.Seated.{TableId}
use Rattle.heap_core.specs.declared.traits.Program.{Ghosts}
use Rattle.entity_heap.specs.declared.board.Plan.{Plan}
use Rattle.entity_heap.specs.declared.board.Visit.{Visit}
use Rattle.entity_heap.specs.declared.heap.Heap.{Heap}
use Rattle.entity_heap.specs.declared.heap.Lane.{Lane}
use Rattle.entity_heap.specs.declared.heap.Core.{Core}
use Rattle.entity_heap.specs.Rule.{AreStates}
use Rattle.entity_heap.specs.Plans.{visit_of, blank_visit, first_visit}

module _ {P : Type 0} {G : Ghosts P} where
  abbrev pub visit_at : Option (Core P G) → Visit P
  visit_at (Some c) = visit_of c.place.me.0
  visit_at None = blank_visit

  abbrev pub table_at : Option (Core P G) → Option TableId
  table_at (Some c) = Some c.place.table_id
  table_at None = None

  -- the lane's view: its number, its pins and looks, its `seen` and `floor`, and what it has recorded
  abbrev pub visit_in : Lane P G → Visit P
  visit_in l = visit_at l.core

  abbrev pub table_in : Lane P G → Option TableId
  table_in l = table_at l.core

  -- the lane and the heap came from one `open`
  abbrev pub IsLaneOf : Heap P → Lane P G → Type 0
  IsLaneOf h l = table_in l ≡ Some h.board.shared.table_id

  -- the lanes of a heap of so many entities as `open` makes them, in their order
  abbrev pub AreNew : Heap P → ℕ → List (Lane P G) → Type 0
  AreNew h entities ls = (k : ℕ) (l : Lane P G) → slice_get ls k ≡ Some l → IsLaneOf h l × (visit_in l ≡ first_visit entities k)

  -- lanes of the heap, in their order
  abbrev pub AreLanesOf : Heap P → List (Lane P G) → Type 0
  AreLanesOf h ls = (k : ℕ) (l : Lane P G) → slice_get ls k ≡ Some l → IsLaneOf h l × ((visit_in l).number ≡ k)

  -- each lane has learnt the version of the writer that met it, and what it has recorded are the writer's states
  abbrev pub AreMet : Plan P → List (Lane P G) → List (Lane P G) → Type 0
  AreMet q old new = (k : ℕ) (l : Lane P G) → slice_get old k ≡ Some l → (l' : Lane P G) × (slice_get new k ≡ Some l') × (visit_in l' ≡ record (visit_in l) { floor = q.version }) × AreStates q (visit_in l).entries
