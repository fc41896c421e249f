-- What facts with their trail stand for: the facts now, and as they were after each number of changes.
use Rattle.std.specs.Prelude.{ℕ, ◌≡◌, ◌≤◌, Bool, false, List, [], ◌∷◌, None, drop, length, if◌then◌else◌}
use Rattle.std.specs.Option.{is_some}
use Rattle.fact_trail.specs.declared.class_facts.ClassFacts.{ClassFacts}
use Rattle.fact_trail.specs.declared.properties.Properties.{Properties}
use Rattle.fact_trail.specs.declared.trail.Trail.{Trail}
use Rattle.fact_trail.specs.declared.trail.Change.{Change}
use Rattle.fact_trail.specs.declared.trail.Change.TheVariants.{At, Variables as all_variables, Properties as all_properties}
use Rattle.fact_trail.specs.declared.slot.Slot.TheVariants.{Variable, Property}
use Rattle.fact_trail.specs.Slots.{Slot, Map, at_slot, is_slot, is_class, without}
use Rattle.fact_trail.specs.Rows.{variables_of, class_facts_of, properties_of}

-- the facts now
abbrev pub map_of : Trail → Map
map_of f (Variable b) = variables_of f.variables b
map_of f (Property k) = properties_of f.properties k

-- the map with these facts on the variables of their class
abbrev pub with_class : ClassFacts → Map → Map
with_class c m (Variable b) = if is_class c.constant b then class_facts_of c b else m (Variable b)
with_class c m (Property k) = m (Property k)

-- the map with these properties
abbrev pub with_properties : Properties → Map → Map
with_properties p m (Variable b) = m (Variable b)
with_properties p m (Property k) = properties_of p k

-- the map before a change
abbrev pub before : Change → Map → Map
before (At slot fact) m = at_slot slot fact m
before (all_variables c) m = with_class c m
before (all_properties p) m = with_properties p m

-- the map before these changes
abbrev pub undone : List Change → Map → Map
undone [] m = m
undone (e ∷ es) m = before e (undone es m)

-- the map as it was after this number of changes
abbrev pub map_at : ℕ → Trail → Map
map_at n f = undone (drop n f.changes.items) (map_of f)

-- the facts of each number of changes up to this one are as they were
abbrev pub KeepsMoments : ℕ → Trail → Trail → Type 0
KeepsMoments count old new = (n : ℕ) → n ≤ count → map_at n new ≡ map_at n old

-- no fact has stood at the slot
abbrev pub IsNew : Slot → Trail → Type 0
IsNew s f = (n : ℕ) → is_some (map_at n f s) ≡ false

-- taking the change back gives the slot no fact where it has none
abbrev pub IsQuiet : Slot → Change → Type 0
IsQuiet s change = (m : Map) → m s ≡ None → before change m s ≡ None

-- so does taking back each of these changes
abbrev pub AreQuiet : Slot → List Change → Type 0
AreQuiet s [] = Unit {0}
AreQuiet s (e ∷ es) = IsQuiet s e × AreQuiet s es

-- the moments before stay, and no slot but this one gets its first fact
pub record Adds (slot : Slot) (old new : Trail) : Type 0 where
  pub longer : length old.changes.items ≤ length new.changes.items
  pub moments : KeepsMoments (length old.changes.items) old new
  pub fresh : (s : Slot) → is_slot slot s ≡ false → IsNew s old → IsNew s new

-- the moments before stay, and no slot gets its first fact
pub record Extends (old new : Trail) : Type 0 where
  pub longer : length old.changes.items ≤ length new.changes.items
  pub moments : KeepsMoments (length old.changes.items) old new
  pub fresh : (s : Slot) → IsNew s old → IsNew s new

-- the facts on some slots go, and the moments before stay
pub record Drops (gone : Slot → Bool) (old new : Trail) : Type 0 where
  pub facts : map_of new ≡ without gone (map_of old)
  pub longer : length old.changes.items ≤ length new.changes.items
  pub moments : KeepsMoments (length old.changes.items) old new
  pub fresh : (s : Slot) → IsNew s old → IsNew s new

-- what was before a change is there again, and the opposite change leads back
pub record TakesBack (change opposite : Change) (old new : Trail) : Type 0 where
  pub made : map_of new ≡ before change (map_of old)
  pub after : map_of old ≡ before opposite (map_of new)
  pub quiet : (s : Slot) → map_of old s ≡ None → IsQuiet s opposite
  pub changes : new.changes.items ≡ old.changes.items

-- nothing was changed
abbrev pub IsSame : Trail → Trail → Type 0
IsSame old new = (map_of new ≡ map_of old) × (new.changes.items ≡ old.changes.items)
