-- What is gathered from ways that meet, and how little of it a further join changes.
use Rattle.std.specs.Prelude.{◌≡◌, Bool, true, false, not, ◌&&◌, ◌||◌, ◌⊎◌, List}
use Rattle.std.specs.Ordering.{nat_cmp}
use Rattle.std.specs.BTreeSet.{contains}
use Rattle.fact_trail.specs.declared.trail.Change.{Change}
use Rattle.fact_trail.specs.declared.trail.Change.TheVariants.{At, Variables as all_variables, Properties as all_properties}
use Rattle.fact_trail.specs.declared.slot.Slot.TheVariants.{Variable, Property}
use Rattle.fact_trail.specs.declared.slot.Slot.{Slot}
use Rattle.fact_trail.specs.Slots.{Map, key_cmp, is_slot, is_variable, is_property}
use Rattle.flow_facts.specs.Known.{both}
use Rattle.fact_arms.specs.declared.difference.Difference.{Difference}
use Rattle.fact_arms.specs.declared.fresh.Fresh.{Fresh}
use Rattle.fact_arms.specs.declared.gathered.Gathered.{Gathered}
use Rattle.fact_arms.specs.Differences.{over, type_of, said_of, is_said, is_among, is_gone, is_listed}
use Rattle.fact_arms.specs.Joining.{joined_type}

-- the slot is one of these
abbrev pub has_slot : Fresh → Slot → Bool
has_slot f (Variable b) = contains nat_cmp f.variables b
has_slot f (Property k) = contains key_cmp f.properties k

-- joining what a difference says with the facts as they stand may change the slot
abbrev pub is_fresh : Fresh → Difference → Slot → Bool
is_fresh f d s = has_slot f s || is_among f.classes s && is_said d s

-- the change is one of this slot
abbrev pub is_at : Change → Slot → Bool
is_at (At slot fact) s = is_slot slot s
is_at change s = false

-- the change is one of a class with this slot
abbrev pub is_of_class : Change → Slot → Bool
is_of_class (all_variables c) s = is_variable c.constant s
is_of_class (all_properties p) s = is_property s
is_of_class change s = false

-- joining what a difference makes of a slot with the fact as it stands leaves it as it is
abbrev pub Stays : Difference → Map → Slot → Type 0
Stays d m s = both (type_of (m s)) (type_of (over d m s)) ≡ type_of (over d m s)

-- joining what is gathered with the facts as they stand changes fresh slots alone
abbrev pub Settled : Gathered → Map → Type 0
Settled g m = (s : Slot) → is_fresh g.fresh g.difference s ≡ false → Stays g.difference m s

-- what is said of the slot stays where the arm is joined, since the arm says something of it too, or its class is not gone
abbrev pub stays_said : Difference → Slot → Bool
stays_said arm s = is_said arm s || not (is_gone arm s)

-- the slot has the joined type, and it makes no difference what it had before
abbrev pub IsJoined : Difference → Difference → Map → Difference → Slot → Type 0
IsJoined arm old m new s = (type_of (over new m s) ≡ joined_type arm old m s) × ((is_said new s || is_gone new s) ≡ true)

-- these slots have the joined types, and others have them too or are left
pub record AreJoined (arm old : Difference) (m : Map) (slots : List Slot) (new : Difference) : Type 0 where
  pub gone : new.gone ≡ old.gone
  pub each : (s : Slot) → (said_of new s ≡ said_of old s) ⊎ IsJoined arm old m new s
  pub listed : (s : Slot) → is_listed slots s ≡ true → IsJoined arm old m new s
