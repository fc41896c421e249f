use Rattle.std.proofs.Common.{◌≡◌, true, false}
use Rattle.std.specs.List.{list_any}
use Rattle.std.specs.Option.{is_some}
use Rattle.std.specs.BTreeMap.{get, is_at}
use Rattle.fact_trail.specs.declared.slot.Slot.TheVariants.{Property}
use Rattle.fact_trail.specs.declared.slot.Key.{Key}
use Rattle.fact_trail.specs.declared.slot.Slot.{Slot}
use Rattle.fact_trail.specs.Slots.{key_cmp}
use Rattle.fact_arms.specs.Differences.{is_listed}
use Rattle.fact_arms.proofs.slots.add_said_properties.Given as goal

-- those that are not listed are among the rest
abbrev pub invariant-loop-key : goal.invariant-loop-key
invariant-loop-key l = record {
  left : (b : Key) → is_some (get key_cmp l.rows b) ≡ true → is_listed l.slots.items (Property b) ≡ false → list_any (is_at (key_cmp b)) l.key-iterator ≡ true;
  keeps : (s : Slot) → is_listed l.fn.slots.items s ≡ true → is_listed l.slots.items s ≡ true;
}
