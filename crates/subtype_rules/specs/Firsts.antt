-- A map of the places of keys.
use Rattle.std.specs.Prelude.{◌≡◌, ℕ, List, Option}
use Rattle.std.specs.Ordering.{nat_cmp}
use Rattle.std.specs.Cmp.Lexicographic.{slice_cmp}
use Rattle.std.specs.BTreeMap.{BTreeMap, get_by}
use Rattle.type_values.specs.declared.types.FlowProp.{FlowProp}
use Rattle.subtype_rules.specs.Terms.{place_at}

-- the place that a map has for a key
abbrev pub place_in : BTreeMap (List ℕ) ℕ → List ℕ → Option ℕ
place_in map key = get_by (slice_cmp nat_cmp key) map

-- a map has the first place of each key
abbrev pub AreFirsts : List FlowProp → BTreeMap (List ℕ) ℕ → Type 0
AreFirsts ps map = (key : List ℕ) → place_in map key ≡ place_at ps key
