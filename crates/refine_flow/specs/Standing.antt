-- What facts on a trail stand for, now and at their marks.
use Rattle.std.specs.Prelude.{ℕ, ◌≡◌, ◌≤◌, ◌<◌, ◌+◌, ◌&&◌, Bool, false, not, List, Option, Some, None, length, if◌then◌else◌}
use Rattle.std.specs.Option.{option_map}
use Rattle.type_values.specs.declared.types.FlowType.{FlowType}
use Rattle.fact_trail.specs.declared.slot.Slot.TheVariants.{Variable, Property}
use Rattle.fact_trail.specs.declared.slot.Slot.{Slot}
use Rattle.fact_trail.specs.Types.{ty_of}
use Rattle.fact_trail.specs.Slots.{Map as Slots}
use Rattle.fact_trail.specs.Moments.{map_of, map_at}
use Rattle.fact_arms.specs.Differences.{over, Leaves}
use Rattle.flow_facts.specs.declared.place.Place.{Place}
use Rattle.flow_facts.specs.Known.{Map, Known, at_place, is_place, overwrites}
use Rattle.refine_flow.specs.declared.names.Names.{Names}
use Rattle.refine_flow.specs.Numbers.{number_of, GrowsNames, IsBeyond}
use Rattle.refine_flow.specs.declared.facts.Facts.{Facts}
use Rattle.refine_flow.specs.declared.facts.Mark.{Mark}
use Rattle.refine_flow.specs.declared.facts.Arm.{Arm}

-- a numbered name of a variable's property
abbrev pub slot_named : ℕ → ℕ → Slot
slot_named binding name = Property (record { name = name; binding = binding })

-- a variable, or its property of a name
abbrev pub slot_by : Names → ℕ → Option (List ℕ) → Option Slot
slot_by names binding None = Some (Variable binding)
slot_by names binding (Some name) = option_map (slot_named binding) (number_of names name)

-- where a place's fact stands, if its name has a number
abbrev pub slot_of : Names → Place → Option Slot
slot_of names q = slot_by names q.binding q.prop

-- the type of a slot's fact
abbrev pub type_in : Slots → Option Slot → Option FlowType
type_in m None = None
type_in m (Some s) = option_map ty_of (m s)

-- the types of places, by the facts of slots
abbrev pub types_by : Names → Slots → Map
types_by names m q = type_in m (slot_of names q)

-- the types of places, where the facts are live or dead
abbrev pub shown : Facts → Map
shown f = types_by f.names (map_of f.trail)

-- the facts
abbrev pub known : Facts → Known
known f = if f.dead then None else Some (shown f)

-- how many marks are open
abbrev pub open_marks : Facts → ℕ
open_marks f = f.marks

-- how many were, before this one
abbrev pub depth_of : Mark → ℕ
depth_of mark = mark.depth

-- the mark is one of these facts, and not spent
abbrev pub IsOf : Mark → Facts → Type 0
IsOf mark f = (mark.depth < f.marks) × (mark.length ≤ length f.trail.changes.items)

-- it is the last one
abbrev pub IsLast : Mark → Facts → Type 0
IsLast mark f = (mark.depth + 1 ≡ f.marks) × (mark.length ≤ length f.trail.changes.items)

-- the first mark was made before the second one, or is it
abbrev pub IsUpTo : Mark → Mark → Type 0
IsUpTo m mark = (m.depth ≤ mark.depth) × (m.length ≤ mark.length)

-- the facts as they were at a mark
abbrev pub known_at : Mark → Facts → Known
known_at mark f = if mark.dead then None else Some (types_by f.names (map_at mark.length f.trail))

-- nothing was changed since the mark
abbrev pub IsAt : Mark → Facts → Type 0
IsAt mark f = mark.length ≡ length f.trail.changes.items

-- what an arm makes of the facts at a mark
abbrev pub known_over : Mark → Arm → Facts → Known
known_over mark arm f = if arm.dead then None else Some (types_by f.names (over arm.difference (map_at mark.length f.trail)))

-- the arm is one of these facts: it never had a fact on a property of a name that has no number
abbrev pub IsArmOf : Arm → Facts → Type 0
IsArmOf arm f = (s : Slot) → IsBeyond f.names s → Leaves s arm.difference

-- an arm stays one, and makes the same of the facts at a mark
abbrev pub KeepsArm : Mark → Arm → Facts → Facts → Type 0
KeepsArm mark arm old new = IsArmOf arm new × (known_over mark arm new ≡ known_over mark arm old)

-- a mark stays one, with the same facts at it, of which arms make the same
abbrev pub KeepsMark : Mark → Facts → Facts → Type 0
KeepsMark mark old new = IsOf mark new × (known_at mark new ≡ known_at mark old) × ((arm : Arm) → IsArmOf arm old → KeepsArm mark arm old new)

-- names that have numbers keep them
abbrev pub KeepsNames : Facts → Facts → Type 0
KeepsNames old new = GrowsNames old.names new.names

-- all marks stay, and none is opened
pub record KeepsMarks (old new : Facts) : Type 0 where
  pub count : open_marks new ≡ open_marks old
  pub names : KeepsNames old new
  pub each : (mark : Mark) → IsOf mark old → KeepsMark mark old new

-- those up to a mark stay, and none is opened
pub record KeepsMarksUpTo (mark : Mark) (old new : Facts) : Type 0 where
  pub count : open_marks new ≡ open_marks old
  pub names : KeepsNames old new
  pub each : (m : Mark) → IsOf m old → IsUpTo m mark → KeepsMark m old new

-- those before a mark stay, and it is spent
pub record SpendsMark (mark : Mark) (old new : Facts) : Type 0 where
  pub count : open_marks new ≡ depth_of mark
  pub names : KeepsNames old new
  pub each : (m : Mark) → IsOf m old → IsUpTo m mark → depth_of m < depth_of mark → KeepsMark m old new

-- those up to a mark stay, and a later one is spent
pub record SpendsInner (before mark : Mark) (old new : Facts) : Type 0 where
  pub count : open_marks new ≡ depth_of mark
  pub names : KeepsNames old new
  pub each : (m : Mark) → IsOf m old → IsUpTo m before → KeepsMark m old new

-- a mark is there for the facts now, and those before it stay
pub record OpensMark (mark : Mark) (old new : Facts) : Type 0 where
  pub last : IsLast mark new
  pub depth : depth_of mark ≡ open_marks old
  pub names : KeepsNames old new
  pub now : known_at mark new ≡ known new
  pub each : (m : Mark) → IsOf m old → IsUpTo m mark × KeepsMark m old new

-- a mark is there for the facts before, and those before it stay
pub record EntersMark (mark : Mark) (old new : Facts) : Type 0 where
  pub last : IsLast mark new
  pub depth : depth_of mark ≡ open_marks old
  pub before : known_at mark new ≡ known old
  pub each : (m : Mark) → IsOf m old → IsUpTo m mark × KeepsMark m old new

-- a variable that is none of these
abbrev pub is_lost : (ℕ → Bool) → Slot → Bool
is_lost kept (Variable b) = not (kept b)
is_lost kept (Property k) = false

-- the map with what is told of a place, if something is
abbrev pub with_told : Place → Option FlowType → Map → Map
with_told p None m = m
with_told p (Some t) m = at_place p (Some t) m

-- what an assignment to a place makes unknown of other places
abbrev pub overwrites_other : Place → Place → Bool
overwrites_other p q = overwrites p q && not (is_place p q)

-- the map is changed so, and all else stays
pub record Changes (change : Map → Map) (old new : Facts) : Type 0 where
  pub types : shown new ≡ change (shown old)
  pub dead : new.dead ≡ old.dead
  pub marks : KeepsMarks old new
