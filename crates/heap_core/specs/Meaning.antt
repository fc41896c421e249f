-- What a writer's heap is, as plain data, and what its calls do to it.
use Rattle.std.specs.Prelude.{◌≡◌, ℕ, ◌+◌, ◌^◌, ◌<◌, ◌≤◌, Bool, true, false, eqb, ◌||◌, List, [], ◌∷◌, ◌++◌, map, length, replicate, slice_get, slice_set, Option, Some, None, if◌then◌else◌}

-- P is what an entity holds. The lists have a place for each entity: its payload in the committed state and its latest one, the
-- version at which it was last committed, and whether it is staged
pub record Meaning (P : Type 0) : Type 0 where
  pub version : ℕ
  pub is_open : Bool
  pub committed : List P
  pub latest : List P
  pub versions : List ℕ
  pub staged : List Bool

-- the version v where an entity is staged, and else its own
abbrev pub stamped : ℕ → List Bool → List ℕ → List ℕ
stamped v (b ∷ bs) (n ∷ ns) = (if b then v else n) ∷ stamped v bs ns
stamped v _ ns = ns

-- as many places, with nothing staged
abbrev pub none_of : List Bool → List Bool
none_of bs = map (λ _. false) bs

-- the number is in the list
abbrev pub names : List ℕ → ℕ → Bool
names [] e = false
names (k ∷ ks) e = eqb k e || names ks e

module _ {P : Type 0} where
  -- all payloads of a state fit its root, which is the first of them
  abbrev pub AllFit : (ℕ → P → ℕ → P → Type 0) → List P → Type 0
  AllFit fits xs = (root : P) → slice_get xs 0 ≡ Some root → (e : ℕ) (x : P) → slice_get xs e ≡ Some x → fits (length xs) root e x

  -- version 0 with this state, and nothing staged: a heap that was just opened
  abbrev pub opening : List P → Meaning P
  opening xs = record { version = 0; is_open = false; committed = xs; latest = xs; versions = replicate (length xs) 0; staged = replicate (length xs) false }

  -- what each call of a writer does
  abbrev pub opened : Meaning P → Meaning P
  opened m = record m { is_open = true }

  abbrev pub staging : ℕ → P → Meaning P → Meaning P
  staging e x m = record m { latest = slice_set m.latest e x; staged = slice_set m.staged e true }

  abbrev pub after_commit : Meaning P → Meaning P
  after_commit m = record { version = m.version + 1; is_open = false; committed = m.latest; latest = m.latest; versions = stamped (m.version + 1) m.staged m.versions; staged = none_of m.staged }

  abbrev pub after_rollback : Meaning P → Meaning P
  after_rollback m = record { version = m.version; is_open = false; committed = m.committed; latest = m.committed; versions = m.versions; staged = none_of m.staged }

  -- what holds at all times
  pub record IsSound (fits : ℕ → P → ℕ → P → Type 0) (m : Meaning P) : Type 0 where
    pub some_entity : 0 < length m.committed
    pub as_many : (length m.latest ≡ length m.committed) × (length m.versions ≡ length m.committed) × (length m.staged ≡ length m.committed)
    pub fit : AllFit fits m.committed
    -- no entity was committed after the heap's version
    pub bounded : (e n : ℕ) → slice_get m.versions e ≡ Some n → n ≤ m.version
    pub unstaged : (e : ℕ) → slice_get m.staged e ≡ Some false → slice_get m.latest e ≡ slice_get m.committed e
    pub closed : m.is_open ≡ false → m.staged ≡ none_of m.staged
    pub room : m.is_open ≡ true → m.version + 1 < 2 ^ 31

  -- where the writer tells its committed states, this one was put behind them
  abbrev pub Appends : Option (List (List P)) → List P → Option (List (List P)) → Type 0
  Appends None x after = after ≡ None
  Appends (Some states) x after = after ≡ Some (states ++ x ∷ [])
