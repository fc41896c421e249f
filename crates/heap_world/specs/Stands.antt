-- Which worlds a heap that keeps no history stands for, and by which events its calls lead from one to the next.
use Rattle.std.specs.Prelude.{◌≡◌, ℕ, ◌+◌, Bool, true, false, List, [], ◌∷◌, ◌++◌, map, length, replicate, Option, Some, None, if◌then◌else◌}
use Rattle.heap_core.specs.Meaning.{Meaning}
use Rattle.heap_world.specs.World.{PureWorld, PureEvent, begin, stage, publish, commit, roll_back, end, drain, current, last_state, IsLawful, AllAllowed, after}

-- the numbers of the staged entities, where the first one of the list has number k
abbrev pub numbers : ℕ → List Bool → List ℕ
numbers k [] = []
numbers k (true ∷ bs) = k ∷ numbers (k + 1) bs
numbers k (false ∷ bs) = numbers (k + 1) bs

module _ {P : Type 0} where
  -- the latest payload of each staged entity
  abbrev pub pending_of : List Bool → List P → List (Option P)
  pending_of (b ∷ bs) (x ∷ xs) = (if b then Some x else None) ∷ pending_of bs xs
  pending_of _ _ = []

  -- a lawful world without lanes, whose last state, version, entity versions, openness and pending payloads are the heap's
  pub record Stands (fits : ℕ → P → ℕ → P → Type 0) (m : Meaning P) (w : PureWorld P) : Type 0 where
    pub lawful : IsLawful fits w
    pub lanes : w.lanes ≡ 0
    pub last : last_state w.history ≡ m.committed
    pub version : current w ≡ m.version
    pub versions : w.versions ≡ m.versions
    pub is_open : w.is_open ≡ m.is_open
    pub pending : w.pending ≡ pending_of m.staged m.latest

  -- each world that the heap stood for is taken by allowed events to one that it stands for now
  abbrev pub Leads : (ℕ → P → ℕ → P → Type 0) → Meaning P → (PureWorld P → List (PureEvent P)) → Meaning P → Type 0
  Leads fits m events next = (w : PureWorld P) → Stands fits m w → AllAllowed fits w (events w) × Stands fits next (after w (events w))

  -- The events of each call. `stage` also publishes, `commit` first publishes each staged entity, and `begin` first drains where that is left to do
  abbrev pub of_begin : PureWorld P → List (PureEvent P)
  of_begin w = if w.drained then (begin ∷ []) else (drain ∷ begin ∷ [])

  abbrev pub of_stage : ℕ → P → PureWorld P → List (PureEvent P)
  of_stage e x w = stage e x ∷ publish e ∷ []

  abbrev pub of_commit : Meaning P → PureWorld P → List (PureEvent P)
  of_commit m w = map publish (numbers 0 m.staged) ++ commit ∷ []

  abbrev pub of_rollback : Meaning P → PureWorld P → List (PureEvent P)
  of_rollback m w = map roll_back (numbers 0 m.staged) ++ end ∷ []

  -- the world of a heap that has just been opened
  abbrev pub first_world : List P → PureWorld P
  first_world xs = record { entities = length xs; lanes = 0; history = xs ∷ []; versions = replicate (length xs) 0; is_open = false; drained = true; pending = replicate (length xs) None; filled = []; published = replicate (length xs) false; pins = [] }
