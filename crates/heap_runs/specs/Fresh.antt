-- Lanes as `open` gives them.
use Rattle.std.specs.Prelude.{ℕ, List}
use Rattle.heap_core.specs.declared.traits.Program.{Ghosts}
use Rattle.entity_heap.specs.declared.heap.Heap.{Heap}
use Rattle.entity_heap.specs.declared.heap.Lane.{Lane}
use Rattle.entity_heap.specs.Lanes.{AreNew}

-- new lanes of the heap, however many its entities are
abbrev pub AreFresh : {P : Type 0} {G : Ghosts P} → Heap P → List (Lane P G) → Type 0
AreFresh h ls = (m : ℕ) × AreNew h m ls
