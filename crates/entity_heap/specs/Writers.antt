-- What contracts see of a writer: what it knows of the heap, and what it means.
use Rattle.std.specs.Prelude.{◌≡◌, ℕ, ◌+◌, ◌<◌, ◌++◌, ◌∷◌, [], Bool, true, false, List, length, slice_get, Some, if◌then◌else◌}
use Rattle.std.proofs.Common.{sym, ap, ◌∙◌}
use Rattle.heap_core.specs.declared.traits.Program.{Ghosts}
use Rattle.heap_core.specs.Meaning.{Meaning}
use Rattle.heap_core.specs.PlainHeaps.{meaning_of}
use Rattle.entity_heap.specs.declared.board.Plan.{Plan}
use Rattle.entity_heap.specs.declared.heap.Heap.{Heap}
use Rattle.entity_heap.specs.declared.heap.Writer.{Writer}
use Rattle.entity_heap.specs.declared.heap.Pinned.{Pinned}
use Rattle.entity_heap.specs.Plans.{plan_of}

module _ {P : Type 0} {G : Ghosts P} where
  -- the writer and the heap came from one `open`
  abbrev pub IsWriterOf : Heap P → Writer P G → Type 0
  IsWriterOf h w = w.place.table_id ≡ h.board.shared.table_id

  -- its view: its states, what it knows of the version before and of the lanes
  abbrev pub plan_in : Writer P G → Plan P
  plan_in w = plan_of w.place.me.0

  -- the version, whether a transaction is open, and what each entity holds
  abbrev pub meaning_in : Writer P G → Meaning P
  meaning_in w = meaning_of w.plain

  -- it is of the same heap, and knows the same states, of as many lanes the same
  pub record GoesOn (old new : Writer P G) : Type 0 where
    pub table : new.place.table_id ≡ old.place.table_id
    pub history : (plan_in new).history ≡ (plan_in old).history
    pub made : (plan_in new).made ≡ (plan_in old).made
    pub met : (plan_in new).met ≡ (plan_in old).met
    pub heard : (plan_in new).heard ≡ (plan_in old).heard

  -- a transaction may begin: where the version before was not drained yet, a load found all departures
  abbrev pub IsDrained : Writer P G → Writer P G → Type 0
  IsDrained old new = (plan_in new).found ≡ (if (plan_in old).drained then (plan_in old).found else (plan_in old).found ++ (plan_in old).owed ∷ [])

  -- a load found fewer departures from the version before than the commit found arrivals, and nothing else has changed
  pub record IsPinned (old new : Writer P G) (p : Pinned) : Type 0 where
    pub version : p.version + 1 ≡ (meaning_in old).version
    pub arrived : p.arrived ≡ (plan_in old).owed
    pub left : p.left < p.arrived
    pub found : plan_in new ≡ record (plan_in old) { found = (plan_in old).found ++ p.left ∷ [] }

-- the last state told is the committed one
pub told_writer : {P : Type 0} (hs states : List (List P)) (v w : ℕ) (c d : List P) → (length hs ≡ v + 1) × (slice_get hs v ≡ Some c) → v ≡ w → c ≡ d → Some hs ≡ Some states → (length states ≡ w + 1) × (slice_get states w ≡ Some d)
told_writer {P} hs states v w c d known vw cd is =
    let same : hs ≡ states = (let z : Some hs ≡ Some states = is in cc) in
    ((λ j. length (sym same j)) ∙ (known.0 ∙ ap (λ (k : ℕ). k + 1) vw), (λ j. slice_get (sym same j) (sym vw j)) ∙ (known.1 ∙ ap (λ (x : List P). Some x) cd))
