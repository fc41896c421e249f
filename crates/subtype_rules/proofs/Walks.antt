-- Walks through lists: one step, and the end.
use Rattle.std.proofs.Common.{◌≡◌, ℕ, true, false, List, Some, None, drop, get_or, length, ◌<◌, ◌≤◌, ◌+◌, arith, drop-cons}
use Rattle.std.specs.Option.{is_some}
use Rattle.std.proofs.lemmas.Grind.{common_steps}
use Rattle.type_values.specs.declared.types.FlowProp.{FlowProp}
use Rattle.alias_table.specs.Aliases.{is_text}
use Rattle.subtyping.specs.Rows.{prop_at, fits_at, all_fit, no_others}
use Rattle.subtype_rules.specs.Terms.{place_from}

pub at_stops : (ps : List FlowProp) (key : List ℕ) (i : ℕ) (d : FlowProp) → i < length ps → is_text (get_or ps i d).key key ≡ true → place_from i (drop i ps) key ≡ Some i
at_stops ps key i d h e = grind (arith, common_steps, drop-cons)

pub at_goes : (ps : List FlowProp) (key : List ℕ) (i : ℕ) (d : FlowProp) → i < length ps → is_text (get_or ps i d).key key ≡ false → place_from i (drop i ps) key ≡ place_from (i + 1) (drop (i + 1) ps) key
at_goes ps key i d h e = grind (arith, common_steps, drop-cons)

pub at_ends : (ps : List FlowProp) (key : List ℕ) (i : ℕ) → length ps ≤ i → place_from i (drop i ps) key ≡ None
at_ends ps key i h = grind (arith, common_steps)

pub fit_stops : (ps all qs : List FlowProp) (i : ℕ) (d : FlowProp) → i < length qs → fits_at (prop_at ps (get_or qs i d).key) (prop_at all (get_or qs i d).key) ≡ false → all_fit ps all (drop i qs) ≡ false
fit_stops ps all qs i d h e = grind (arith, common_steps, drop-cons)

pub fit_goes : (ps all qs : List FlowProp) (i : ℕ) (d : FlowProp) → i < length qs → fits_at (prop_at ps (get_or qs i d).key) (prop_at all (get_or qs i d).key) ≡ true → all_fit ps all (drop i qs) ≡ all_fit ps all (drop (i + 1) qs)
fit_goes ps all qs i d h e = grind (arith, common_steps, drop-cons)

pub fit_ends : (ps all qs : List FlowProp) (i : ℕ) → length qs ≤ i → all_fit ps all (drop i qs) ≡ true
fit_ends ps all qs i h = grind (arith, common_steps)

pub others_stops : (qs ps : List FlowProp) (i : ℕ) (d : FlowProp) → i < length ps → is_some (prop_at qs (get_or ps i d).key) ≡ false → no_others qs (drop i ps) ≡ false
others_stops qs ps i d h e = grind (arith, common_steps, drop-cons)

pub others_goes : (qs ps : List FlowProp) (i : ℕ) (d : FlowProp) → i < length ps → is_some (prop_at qs (get_or ps i d).key) ≡ true → no_others qs (drop i ps) ≡ no_others qs (drop (i + 1) ps)
others_goes qs ps i d h e = grind (arith, common_steps, drop-cons)

pub others_ends : (qs ps : List FlowProp) (i : ℕ) → length ps ≤ i → no_others qs (drop i ps) ≡ true
others_ends qs ps i h = grind (arith, common_steps)
