-- The place of a key, and the property at it.
use Rattle.std.proofs.Common.{◌≡◌, ℕ, suc, Bool, true, false, List, [], ◌∷◌, Option, Some, None, refl, ap, ◌∙◌, if◌then◌else◌}
use Rattle.type_values.specs.declared.types.FlowProp.{FlowProp}
use Rattle.alias_table.specs.Aliases.{is_text}
use Rattle.subtyping.specs.Rows.{prop_at}
use Rattle.subtype_rules.specs.Kept.{prop_of_place}
use Rattle.subtype_rules.specs.Terms.{place_from, place_at}

abbrev pub later : Option ℕ → Option ℕ
later None = None
later (Some k) = Some (suc k)

-- counting from one more, each place is one more
pub place_later : (i : ℕ) (ps : List FlowProp) (key : List ℕ) → place_from (suc i) ps key ≡ later (place_from i ps key)
place_later i [] key = refl
place_later i (p ∷ ps) key = by (is_text p.key key) (place_from (suc (suc i)) ps key) (place_from (suc i) ps key) (place_later (suc i) ps key)
  where
    by : (b : Bool) (m n : Option ℕ) → m ≡ later n → (if b then Some (suc i) else m) ≡ later (if b then Some i else n)
    by true m n e = refl
    by false m n e = e

prop_later : (p : FlowProp) (ps : List FlowProp) (n : Option ℕ) → prop_of_place (p ∷ ps) (later n) ≡ prop_of_place ps n
prop_later p ps None = refl
prop_later p ps (Some k) = refl

-- the property at the place of a key is that of the key
pub prop_there : (ps : List FlowProp) (key : List ℕ) → prop_of_place ps (place_at ps key) ≡ prop_at ps key
prop_there [] key = refl
prop_there (p ∷ ps) key = by (is_text p.key key) (place_from 1 ps key) (ap (prop_of_place (p ∷ ps)) (place_later 0 ps key) ∙ prop_later p ps (place_at ps key) ∙ prop_there ps key)
  where
    by : (b : Bool) (m : Option ℕ) → prop_of_place (p ∷ ps) m ≡ prop_at ps key → prop_of_place (p ∷ ps) (if b then Some 0 else m) ≡ (if b then Some p else prop_at ps key)
    by true m e = refl
    by false m e = e
