-- Joining what two differences make of facts.
use Rattle.std.specs.Prelude.{Option, if◌then◌else◌}
use Rattle.type_values.specs.declared.types.FlowType.{FlowType}
use Rattle.fact_trail.specs.declared.slot.Slot.{Slot}
use Rattle.fact_trail.specs.Slots.{Map, is_slot}
use Rattle.flow_facts.specs.Known.{both}
use Rattle.fact_arms.specs.declared.difference.Difference.{Difference}
use Rattle.fact_arms.specs.Differences.{over, type_of, said_of, said_else}

-- the type that a slot is to have: the join of what the two make of it
abbrev pub joined_type : Difference → Difference → Map → Slot → Option FlowType
joined_type first second m s = both (type_of (over first m s)) (type_of (over second m s))

-- the map with what a difference says of one slot
abbrev pub said_at : Difference → Slot → Map → Map
said_at d slot m s = if is_slot slot s then said_else (said_of d slot) (m s) else m s
