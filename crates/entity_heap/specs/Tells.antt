-- What each step tells the one who makes it.
use Rattle.std.specs.Prelude.{◌≡◌, ◌≢◌, ℕ, ◌+◌, ◌-◌, ◌/◌, ◌<◌, ◌≤◌, true, [], ◌∷◌, length, replicate, slice_get, slice_index, Option, Some, None}
use Rattle.std.specs.Arc.{arc_value}
use Rattle.std.specs.declared.sync.Arc.{Arc}
use Rattle.atomic_table.specs.Table.{Me, Step}
use Rattle.heap_core.specs.Meaning.{AllFit}
use Rattle.entity_heap.specs.declared.board.Fill.{Fill}
use Rattle.entity_heap.specs.declared.board.Plan.{Plan}
use Rattle.entity_heap.specs.declared.board.Role.{Role}
use Rattle.entity_heap.specs.declared.board.Role.TheVariants.{Reads, Writes}
use Rattle.entity_heap.specs.Rule.{spot, pick, AreStates}
use Rattle.entity_heap.specs.Plans.{after_commit, after_load, after_drain, fill_at, reaching, filling_on, staging, rolling, after_pin, after_unpin, after_look, visit_of, plan_of}

-- each lane was met at the current version
abbrev pub IsMet : {P : Type 0} → Plan P → Type 0
IsMet q = (n : ℕ) → n < q.made → q.version ≤ slice_index q.met n

abbrev Sat : Type 0 → Type 0 → Type 0
Sat S P = Me S (Role P)

module _ {S P : Type 0} where
  -- the lane is pinned at the version in the gate
  abbrev pub pinned : (ℕ → P → ℕ → P → Type 0) → Step S → Sat S P → ℕ → Sat S P → Type 0
  pinned fits st m n m' =
      (m' ≡ (Reads (after_pin (n / 4294967296) (visit_of m'.0).state (visit_of m.0)), m.1)) × ((visit_of m.0).seen ≤ n / 4294967296) × ((visit_of m.0).floor ≤ n / 4294967296) × (n / 4294967296 < 2147483648)
      × AllFit fits (visit_of m'.0).state × (length (visit_of m'.0).state ≡ (visit_of m.0).entities) × (0 < (visit_of m.0).entities)

  abbrev pub unpinned : Step S → Sat S P → ℕ → Sat S P → Type 0
  unpinned st m n m' = m' ≡ (Reads (after_unpin (visit_of m.0)), m.1)

  -- a lane sees the version in the gate
  abbrev pub looked : Step S → Sat S P → ℕ → Sat S P → Type 0
  looked st m n m' = (m' ≡ (Reads (after_look (n / 4294967296) (visit_of m.0)), m.1)) × ((visit_of m.0).seen ≤ n / 4294967296) × ((visit_of m.0).floor ≤ n / 4294967296) × (n / 4294967296 < 2147483648)

  abbrev pub committed : Step S → Sat S P → ℕ → Sat S P → Type 0
  committed st m n m' = m' ≡ (Writes (after_commit n (plan_of m.0)), m.1)

  -- the departures found are those that are owed, which are then none, or not yet
  abbrev pub drained : Step S → Sat S P → ℕ → Sat S P → Type 0
  drained st m n m' = (n ≡ (plan_of m.0).owed → m' ≡ (Writes (after_drain n (plan_of m.0)), m.1)) × (n ≢ (plan_of m.0).owed → m' ≡ (Writes (after_load n (plan_of m.0)), m.1)) × (n ≤ (plan_of m.0).owed) × (IsMet (plan_of m.0) → n ≡ (plan_of m.0).owed)

  abbrev pub was_reset : Step S → Sat S P → ℕ → Sat S P → Type 0
  was_reset st m n m' = m' ≡ (Writes (record (plan_of m.0) { reset = true }), m.1)

  -- the writer sees that no lane was met at a later version, and that what it heard is its own
  abbrev pub checked : Step S → Sat S P → ℕ → Sat S P → Type 0
  checked st m n m' = (m' ≡ m) × ((i : ℕ) → slice_index (plan_of m.0).met i ≤ (plan_of m.0).version) × AreStates (plan_of m.0) (plan_of m.0).heard

  abbrev pub rolled : Step S → Sat S P → ℕ → Sat S P → Type 0
  rolled st m n m' = (e : ℕ) → st.word ≡ 3 + e → m' ≡ (Writes (rolling (plan_of m.0) e), m.1)

module _ {P Z : Type 0} where
  -- the lane has the slot that the word chooses for its pin, and the payload there is that of its state
  abbrev pub took : Step (Option (Arc P Z)) → Sat (Option (Arc P Z)) P → ℕ → Sat (Option (Arc P Z)) P → Type 0
  took st m n m' = (e p : ℕ) (x : P) → st.word ≡ 3 + e → (visit_of m.0).pin ≡ Some p → slice_get (visit_of m.0).state e ≡ Some x
      → let l = visit_of m.0 in let k = spot l.entities l.number e (pick n p) in
      (a : Arc P Z) × (m' ≡ (Reads (record l { hold = Some (record { entity = e; slot = k; pin = p }) }), (k, Some a) ∷ m.1)) × (arc_value a ≡ x)

  abbrev pub gave : Step (Option (Arc P Z)) → Sat (Option (Arc P Z)) P → ℕ → Sat (Option (Arc P Z)) P → Type 0
  gave st m n m' = (k : ℕ) (y : Option (Arc P Z)) → m.1 ≡ (k, y) ∷ [] → m' ≡ (Reads (record (visit_of m.0) { hold = None }), [])

  -- the writer has the next lane's slot to which no reader of the current version is sent
  abbrev pub reached : Step (Option (Arc P Z)) → Sat (Option (Arc P Z)) P → ℕ → Sat (Option (Arc P Z)) P → Type 0
  reached st m n m' = (e : ℕ) → st.word ≡ 3 + e → let q = plan_of m.0 in let f = fill_at q.fill e in let k = spot q.entities (length f.payloads) f.entity (1 - pick n q.version) in
      (y : Option (Arc P Z)) × (m' ≡ (Writes (reaching q f k), (k, y) ∷ m.1))

  abbrev pub filled : Step (Option (Arc P Z)) → Sat (Option (Arc P Z)) P → ℕ → Sat (Option (Arc P Z)) P → Type 0
  filled st m n m' = (k : ℕ) (a : Arc P Z) (f : Fill P) → m.1 ≡ (k, Some a) ∷ [] → (plan_of m.0).fill ≡ Some f → m' ≡ (Writes (filling_on (plan_of m.0) f (arc_value a)), [])

  abbrev pub staged : Step (Option (Arc P Z)) → Sat (Option (Arc P Z)) P → ℕ → Sat (Option (Arc P Z)) P → Type 0
  staged st m n m' = (f : Fill P) (x : P) → (plan_of m.0).fill ≡ Some f → f.payloads ≡ replicate (plan_of m.0).lanes x → m' ≡ (Writes (staging (plan_of m.0) f.entity x), m.1)
