-- What readers may rest on between any two steps.
use Rattle.std.specs.Prelude.{◌≡◌, ◌≢◌, ℕ, ◌+◌, ◌<◌, ◌≤◌, true, false, slice_get, slice_index, Option, Some}
use mathlib.Core.Option.{some}
use lib.ListN.{get_elem?}
use Rattle.std.specs.declared.sync.Arc.{Arc}
use Rattle.atomic_table.specs.Table.{State}
use Rattle.heap_core.specs.Meaning.{AllFit}
use Rattle.entity_heap.specs.declared.board.Hold.{Hold}
use Rattle.entity_heap.specs.declared.board.Reach.{Reach}
use Rattle.entity_heap.specs.declared.board.Plan.{Plan}
use Rattle.entity_heap.specs.declared.board.Visit.{Visit}
use Rattle.entity_heap.specs.declared.board.Role.{Role}
use Rattle.entity_heap.specs.declared.board.Role.TheVariants.{Reads}
use Rattle.entity_heap.specs.Rule.{door, spot, pick, word_of, IsRead, AreStates, Has, Ties}

module _ {P Z : Type 0} where
  -- the committed payloads fit the committed root, and in each lane the slot that a reader of the current version is sent to has them, where the lane has not taken it
  abbrev pub AreServed : (ℕ → P → ℕ → P → Type 0) → State (Option (Arc P Z)) (Role P) → Plan P → Ties → Type 0
  AreServed fits s q t = AllFit fits q.committed
      × ((n e : ℕ) (x : P) → n < q.lanes → e < q.entities → slice_get q.committed e ≡ Some x → let k = spot q.entities n e (pick (word_of s.words e) q.version) in ((h : Hold) → t.held n ≡ Some h → h.slot ≢ k) → Has s.homes k x)

  -- once the version before is drained, each pin is at the current one
  abbrev pub HaveLeft : State (Option (Arc P Z)) (Role P) → Plan P → Type 0
  HaveLeft s q = q.drained ≡ true → (j p : ℕ) (l : Visit P) → get_elem? s.views j ≡ some (Reads l) → l.pin ≡ Some p → p ≡ q.version

  -- where fewer have left the version before than are owed, a lane is pinned at it
  abbrev pub IsAwaited : State (Option (Arc P Z)) (Role P) → Plan P → Type 0
  IsAwaited s q = q.drained ≡ false → slice_index s.words (door (q.version + 1)) < q.owed → (j p : ℕ) × (l : Visit P) × (get_elem? s.views j ≡ some (Reads l)) × (l.pin ≡ Some p) × (p + 1 ≡ q.version)

  -- no lane knows of a later version than the writer's, what it has recorded are the writer's states, and it has no pin before the version at which the writer met it
  abbrev pub AreNoted : State (Option (Arc P Z)) (Role P) → Plan P → Type 0
  AreNoted s q = (j : ℕ) (l : Visit P) → get_elem? s.views j ≡ some (Reads l) → (l.seen ≤ q.version) × (l.floor ≤ q.version) × AreStates q l.entries × ((p : ℕ) → l.pin ≡ Some p → slice_index q.met l.number ≤ p)

  -- the slot that the writer has taken to fill it is none that a pinned lane may read
  abbrev pub IsApart : State (Option (Arc P Z)) (Role P) → Plan P → Type 0
  IsApart s q = (w : Reach) → q.hand ≡ Some w → (n e v : ℕ) → n < q.lanes → e < q.entities → IsRead q v → w.slot ≢ spot q.entities n e (pick (word_of s.words e) v)
