use Rattle.std.proofs.Common.{◌≡◌, ℕ, true, false}
use Rattle.std.specs.List.{list_any}
use Rattle.std.specs.Option.{is_some}
use Rattle.std.specs.BTreeMap.{get, is_at}
use Rattle.fact_trail.specs.declared.slot.Slot.TheVariants.{Variable}
use Rattle.std.specs.Ordering.{nat_cmp}
use Rattle.fact_trail.specs.declared.slot.Slot.{Slot}
use Rattle.fact_arms.specs.Differences.{is_listed}
use Rattle.fact_arms.proofs.slots.add_said_variables.Given as goal

-- those that are not listed are among the rest
abbrev pub invariant-loop-binding : goal.invariant-loop-binding
invariant-loop-binding l = record {
  left : (b : ℕ) → is_some (get nat_cmp l.rows b) ≡ true → is_listed l.slots.items (Variable b) ≡ false → list_any (is_at (nat_cmp b)) l.binding-iterator ≡ true;
  keeps : (s : Slot) → is_listed l.fn.slots.items s ≡ true → is_listed l.slots.items s ≡ true;
}
