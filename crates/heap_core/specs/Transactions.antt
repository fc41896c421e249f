-- What a whole transaction does.
use Rattle.std.specs.Prelude.{◌≡◌, ℕ, ◌+◌, ◌<◌, true, false, List, [], ◌∷◌, map, length, replicate, slice_get, slice_set, Some}
use Rattle.heap_core.specs.Meaning.{Meaning, staging, names}

-- a change is an entity's number and its new payload
module _ {P : Type 0} where
  -- the entities that the changes name
  abbrev pub numbers_of : List (ℕ × P) → List ℕ
  numbers_of changes = map (λ c. c.0) changes

  -- the state, with each change made, in order
  abbrev pub written : List (ℕ × P) → List P → List P
  written [] xs = xs
  written (c ∷ cs) xs = written cs (slice_set xs c.0 c.1)

  -- each change is staged, in order
  abbrev pub all_staged : List (ℕ × P) → Meaning P → Meaning P
  all_staged [] m = m
  all_staged (c ∷ cs) m = all_staged cs (staging c.0 c.1 m)

  -- the changes were committed as the next version, and no other entity changed
  pub record Committed (changes : List (ℕ × P)) (old new : Meaning P) : Type 0 where
    pub version : new.version ≡ old.version + 1
    pub is_open : new.is_open ≡ false
    pub committed : new.committed ≡ written changes old.committed
    pub others : (e : ℕ) → names (numbers_of changes) e ≡ false → (slice_get new.committed e ≡ slice_get old.committed e) × (slice_get new.versions e ≡ slice_get old.versions e)
    pub raised : (e : ℕ) → e < length old.committed → names (numbers_of changes) e ≡ true → slice_get new.versions e ≡ Some new.version

  -- this whole state was committed as the next version
  abbrev pub with_state : List P → Meaning P → Meaning P
  with_state state m = record { version = m.version + 1; is_open = false; committed = state; latest = state; versions = replicate (length state) (m.version + 1); staged = replicate (length state) false }

  -- more may be staged, and nothing else has changed
  pub record IsStaging (old new : Meaning P) : Type 0 where
    pub is_open : new.is_open ≡ old.is_open
    pub version : new.version ≡ old.version
    pub committed : new.committed ≡ old.committed
    pub versions : new.versions ≡ old.versions
