-- Slots, which have facts, and maps from them.
use Rattle.std.specs.Prelude.{ℕ, ◌==◌, ◌&&◌, Bool, true, false, not, nat_lt, Option, Some, None, if◌then◌else◌}
use Rattle.std.specs.Ordering.{nat_cmp, is_eq, ordering_then}
use Rattle.std.specs.declared.cmp.Ordering.{Ordering}
use Rattle.flow_facts.specs.Known.{is_constant_number}
use Rattle.fact_trail.specs.declared.fact.Fact.{Fact}
pub use Rattle.fact_trail.specs.declared.slot.Key.{Key}
pub use Rattle.fact_trail.specs.declared.slot.Turned.{Turned}
pub use Rattle.fact_trail.specs.declared.slot.Slot.{Slot}
use Rattle.fact_trail.specs.declared.slot.Slot.TheVariants.{Variable, Property}

-- by names, and then by variables
abbrev pub key_cmp : Key → Key → Ordering
key_cmp p q = ordering_then (nat_cmp p.name q.name) (nat_cmp p.binding q.binding)

-- by variables, and then by names
abbrev pub turned_cmp : Turned → Turned → Ordering
turned_cmp p q = ordering_then (nat_cmp p.binding q.binding) (nat_cmp p.name q.name)

-- the same key, ordered by its variable first
abbrev pub turn : Key → Turned
turn k = record { binding = k.binding; name = k.name }

abbrev pub is_number : ℕ → ℕ → Bool
is_number a b = is_eq (nat_cmp a b)

abbrev pub is_key : Key → Key → Bool
is_key p q = is_eq (key_cmp p q)

-- the same slot
abbrev pub is_slot : Slot → Slot → Bool
is_slot (Variable a) (Variable b) = is_number a b
is_slot (Property p) (Property q) = is_key p q
is_slot p q = false

-- The facts of the slots that have one.
abbrev pub Map : Type 0
Map = Slot → Option Fact

-- facts by numbers, with this at one of them
abbrev pub at_number : ℕ → Option Fact → (ℕ → Option Fact) → ℕ → Option Fact
at_number b fact m q = if is_number b q then fact else m q

-- facts by keys, with this at one of them
abbrev pub at_key : Key → Option Fact → (Key → Option Fact) → Key → Option Fact
at_key k fact m q = if is_key k q then fact else m q

-- the map with this at a slot
abbrev pub at_slot : Slot → Option Fact → Map → Map
at_slot s fact m q = if is_slot s q then fact else m q

-- the facts on the slots that are not gone
abbrev pub without : (Slot → Bool) → Map → Map
without gone m q = if gone q then None else m q

abbrev pub is_property : Slot → Bool
is_property (Variable b) = false
is_property (Property k) = true

-- a variable is of the class of constants (true), or of the other one
abbrev pub is_class : Bool → ℕ → Bool
is_class true b = is_constant_number b
is_class false b = not (is_constant_number b)

-- a variable of this class
abbrev pub is_variable : Bool → Slot → Bool
is_variable constant (Variable b) = is_class constant b
is_variable constant (Property k) = false

-- the lower one of two numbers that may be there
abbrev pub first_of : Option ℕ → Option ℕ → Option ℕ
first_of None b = b
first_of (Some x) None = Some x
first_of (Some x) (Some y) = if nat_lt y x then Some y else Some x

-- a property of this name
abbrev pub is_named : ℕ → Slot → Bool
is_named name (Variable b) = false
is_named name (Property k) = name == k.name

-- another property of the name of this one
abbrev pub is_other_named : Key → Slot → Bool
is_other_named key (Variable b) = false
is_other_named key (Property k) = key.name == k.name && not (is_key key k)

-- a property of this variable
abbrev pub is_of : ℕ → Slot → Bool
is_of binding (Variable b) = false
is_of binding (Property k) = binding == k.binding

-- there is a fact, and its type may change where it is joined with itself
abbrev pub is_rough_at : Option Fact → Bool
is_rough_at None = false
is_rough_at (Some fact) = fact.rough
