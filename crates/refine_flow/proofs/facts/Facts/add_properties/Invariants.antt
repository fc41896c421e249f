use Rattle.std.proofs.Common.{◌≡◌, ℕ, List, true, false, Some}
use Rattle.std.specs.List.{list_any}
use Rattle.std.specs.Option.{is_some}
use Rattle.std.specs.BTreeMap.{is_at}
use Rattle.fact_trail.specs.declared.slot.Slot.TheVariants.{Property}
use Rattle.fact_trail.specs.declared.slot.Key.{Key}
use Rattle.fact_trail.specs.Slots.{key_cmp}
use Rattle.fact_trail.specs.Moments.{map_of}
use Rattle.flow_facts.specs.Known.{property_place}
use Rattle.refine_flow.specs.Numbers.{name_of}
use Rattle.refine_flow.specs.Whole.{is_listed, AddsTrue}
use Rattle.refine_flow.specs.Standing.{shown}
use Rattle.refine_flow.proofs.facts.Facts.add_properties.Given as goal

-- what has a fact is listed, or among what is left
abbrev pub invariant-loop-key : goal.invariant-loop-key
invariant-loop-key l = record {
  adds : AddsTrue (shown l.self) l.fn.rows.items l.rows.items;
  left : (k : Key) (x : List ℕ) → name_of l.self.names k.name ≡ Some x → is_some (map_of l.self.trail (Property k)) ≡ true → is_listed l.rows.items (property_place k.binding x) ≡ false → list_any (is_at (key_cmp k)) l.key-iterator ≡ true;
}
