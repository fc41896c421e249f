use Rattle.std.proofs.Common.{◌≡◌, ◌&&◌, false, length}
use Rattle.fact_trail.specs.declared.slot.Slot.{Slot}
use Rattle.fact_trail.specs.Moments.{map_of}
use Rattle.fact_arms.specs.Differences.{over, type_of, is_said, is_listed, Goes}
use Rattle.fact_arms.proofs.difference.Difference.make.Given as goal

-- those that are not listed have what is to be made
abbrev pub invariant-loop-slot : goal.invariant-loop-slot
invariant-loop-slot l = record {
  made : (s : Slot) → (is_listed l.slots.items s && is_said l.self s) ≡ false → type_of (map_of l.trail s) ≡ type_of (over l.self (map_of l.fn.trail) s);
  goes : Goes l.self l.fn.trail l.trail;
}

abbrev pub decreases-loop-slot : goal.decreases-loop-slot
decreases-loop-slot l = length l.slots.items
