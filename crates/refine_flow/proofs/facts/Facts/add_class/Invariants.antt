use Rattle.std.proofs.Common.{◌≡◌, ℕ, true, false}
use Rattle.std.specs.List.{list_any}
use Rattle.std.specs.Ordering.{nat_cmp}
use Rattle.std.specs.BTreeMap.{is_at}
use Rattle.flow_facts.specs.Known.{variable_place}
use Rattle.refine_flow.specs.Whole.{is_listed, AddsTrue}
use Rattle.refine_flow.specs.Standing.{shown}
use Rattle.refine_flow.proofs.Listing.{HasBoth}
use Rattle.refine_flow.proofs.facts.Facts.add_class.Given as goal

-- what has a fact is listed, or among what is left
abbrev pub invariant-loop-binding : goal.invariant-loop-binding
invariant-loop-binding l = record {
  adds : AddsTrue (shown l.self) l.fn.rows.items l.rows.items;
  left : (b : ℕ) → HasBoth l.facts l.self b → is_listed l.rows.items (variable_place b) ≡ false → list_any (is_at (nat_cmp b)) l.binding-iterator ≡ true;
}
