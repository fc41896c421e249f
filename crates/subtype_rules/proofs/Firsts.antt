-- A map of the first places of keys, one more before the others.
use Rattle.std.proofs.Common.{◌≡◌, ℕ, ◌<◌, ◌≤◌, ◌+◌, List, Option, Some, None, drop, get_or, length, arith, sym, ap, ◌∙◌, drop-cons, if◌then◌else◌}
use Rattle.std.proofs.lemmas.Grind.{common_steps}
use Rattle.type_values.specs.declared.types.FlowProp.{FlowProp}
use Rattle.alias_table.specs.Aliases.{is_text}
use Rattle.subtype_rules.specs.Terms.{place_from}

none_behind : (ps : List FlowProp) (i : ℕ) (key : List ℕ) → length ps ≤ i → place_from i (drop i ps) key ≡ None
none_behind ps i key h = grind (arith, common_steps)

pub no_firsts : (ps : List FlowProp) (key : List ℕ) → None ≡ place_from (length ps) (drop (length ps) ps) key
no_firsts ps key = sym (none_behind ps (length ps) key (omega arith))

step : (ps : List FlowProp) (i : ℕ) (d : FlowProp) (key : List ℕ) → i < length ps → place_from i (drop i ps) key ≡ (if is_text (get_or ps i d).key key then Some i else place_from (i + 1) (drop (i + 1) ps) key)
step ps i d key h = grind (arith, common_steps, drop-cons)

-- one place more, before those that the map has
pub firsts_next : (ps : List FlowProp) (later i : ℕ) (d : FlowProp) (key text : List ℕ) (old new : Option ℕ) → later ≡ i + 1 → i < length ps → old ≡ place_from later (drop later ps) key →
    new ≡ (if is_text text key then Some i else old) → text ≡ (get_or ps i d).key → new ≡ place_from i (drop i ps) key
firsts_next ps later i d key text old new same h was is is_key =
    is ∙ ap (λ (t : List ℕ). if is_text t key then Some i else old) is_key
    ∙ ap (λ (o : Option ℕ). if is_text (get_or ps i d).key key then Some i else o) (was ∙ ap (λ (n : ℕ). place_from n (drop n ps) key) same) ∙ sym (step ps i d key h)
