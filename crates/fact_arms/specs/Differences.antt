-- What facts became since an earlier moment, slot by slot.
use Rattle.std.specs.Prelude.{ℕ, ◌≡◌, ◌≤◌, ◌+◌, Bool, true, false, List, Option, Some, None, length, if◌then◌else◌}
use Rattle.std.specs.List.{list_any}
use Rattle.std.specs.Option.{is_some, option_map}
use Rattle.std.specs.Ordering.{nat_cmp}
use Rattle.std.specs.BTreeMap.{BTreeMap, get, btree_map_len}
use Rattle.type_values.specs.declared.types.FlowType.{FlowType}
use Rattle.fact_trail.specs.declared.fact.Fact.{Fact}
use Rattle.fact_trail.specs.declared.trail.Trail.{Trail}
use Rattle.fact_trail.specs.declared.trail.Change.{Change}
use Rattle.fact_trail.specs.declared.slot.Slot.TheVariants.{Variable, Property}
use Rattle.fact_trail.specs.declared.slot.Key.{Key}
use Rattle.fact_trail.specs.declared.slot.Slot.{Slot}
use Rattle.fact_trail.specs.Types.{ty_of}
use Rattle.fact_trail.specs.Slots.{Map, key_cmp, is_slot}
use Rattle.fact_trail.specs.Moments.{map_of, before, KeepsMoments, IsNew}
use Rattle.flow_facts.specs.Known.{is_constant_number}
use Rattle.fact_arms.specs.declared.gone.Gone.{Gone}
use Rattle.fact_arms.specs.declared.difference.Difference.{Difference}

-- what is said of a slot, and else another fact
abbrev pub said_else : Option (Option Fact) → Option Fact → Option Fact
said_else None other = other
said_else (Some fact) other = fact

-- what is said of a slot
abbrev pub said_of : Difference → Slot → Option (Option Fact)
said_of d (Variable b) = get nat_cmp d.variables b
said_of d (Property k) = get key_cmp d.properties k

abbrev pub is_said : Difference → Slot → Bool
is_said d s = is_some (said_of d s)

-- of how many slots something is said
abbrev pub count_of : Difference → ℕ
count_of d = btree_map_len d.variables + btree_map_len d.properties

-- the variables of a class, those that are constant (true) or the others, are among these
abbrev pub class_gone : Gone → Bool → Bool
class_gone g true = g.constants
class_gone g false = g.changing

-- the slot is of one of these classes
abbrev pub is_among : Gone → Slot → Bool
is_among g (Variable b) = class_gone g (is_constant_number b)
is_among g (Property k) = g.properties

-- the slot has no fact unless something is said of it
abbrev pub is_gone : Difference → Slot → Bool
is_gone d s = is_among d.gone s

-- the map that a difference makes of another one
abbrev pub over : Difference → Map → Map
over d m s = said_else (said_of d s) (if is_gone d s then None else m s)

-- the map with what is said of variables
abbrev pub with_variables : BTreeMap ℕ (Option Fact) → Map → Map
with_variables rows m (Variable b) = said_else (get nat_cmp rows b) (m (Variable b))
with_variables rows m (Property k) = m (Property k)

-- the map with what is said of properties
abbrev pub with_keys : BTreeMap Key (Option Fact) → Map → Map
with_keys rows m (Variable b) = m (Variable b)
with_keys rows m (Property k) = said_else (get key_cmp rows k) (m (Property k))

-- the map before a change, if there is one
abbrev pub before_last : Option Change → Map → Map
before_last None m = m
before_last (Some change) m = before change m

-- a slot that has no fact is given none
abbrev pub Leaves : Slot → Difference → Type 0
Leaves s d = said_else (said_of d s) None ≡ None

-- the type of a fact, if there is one
abbrev pub type_of : Option Fact → Option FlowType
type_of fact = option_map ty_of fact

-- the same types at all slots
abbrev pub SameTypes : Map → Map → Type 0
SameTypes m n = (s : Slot) → type_of (m s) ≡ type_of (n s)

-- the slot is among these
abbrev pub is_listed : List Slot → Slot → Bool
is_listed slots s = list_any (λ t. is_slot t s) slots

-- some last changes are taken back
pub record GoesBack (old new : Trail) : Type 0 where
  pub shorter : length new.changes.items ≤ length old.changes.items
  pub moments : KeepsMoments (length new.changes.items) old new
  pub fresh : (s : Slot) → IsNew s old → IsNew s new

-- the moments up to this number stay, and no slot gets its first fact
pub record KeepsUpTo (number : ℕ) (old new : Trail) : Type 0 where
  pub within : number ≤ length new.changes.items
  pub moments : KeepsMoments number old new
  pub fresh : (s : Slot) → IsNew s old → IsNew s new

-- the last change goes from the trail to a difference
pub record TakesLast (old new : Difference) (before after : Trail) : Type 0 where
  pub made : over new (map_of after) ≡ over old (map_of before)
  pub one : length before.changes.items ≡ length after.changes.items + 1
  pub leaves : (s : Slot) → IsNew s before → Leaves s old → Leaves s new

-- some changes are made, which give a fact to no slot that a difference leaves without
pub record Goes (d : Difference) (old new : Trail) : Type 0 where
  pub longer : length old.changes.items ≤ length new.changes.items
  pub moments : KeepsMoments (length old.changes.items) old new
  pub fresh : (s : Slot) → Leaves s d → IsNew s old → IsNew s new
