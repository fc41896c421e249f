-- Facts that their join with themselves leaves as they are.
use Rattle.std.proofs.Common.{◌≡◌, ℕ, Bool, true, false, List, [], ◌∷◌, Option, Some, None, length, btree_set_len, refl, sym, ap, ◌∙◌, if◌then◌else◌}
use Rattle.std.specs.Option.{option_map}
use Rattle.std.specs.List.{list_any}
use Rattle.std.specs.Ordering.{nat_cmp}
use Rattle.std.specs.BTreeSet.{BTreeSet, contains}
use Rattle.fact_trail.specs.declared.fact.Fact.{Fact}
use Rattle.fact_trail.specs.declared.class_facts.ClassFacts.{ClassFacts}
use Rattle.fact_trail.specs.declared.variables.Variables.{Variables}
use Rattle.fact_trail.specs.declared.properties.Properties.{Properties}
use Rattle.fact_trail.specs.declared.slot.Key.{Key}
use Rattle.fact_trail.specs.declared.slot.Slot.TheVariants.{Variable, Property}
use Rattle.fact_trail.specs.declared.slot.Slot.{Slot}
use Rattle.fact_trail.specs.Types.{ty_of}
use Rattle.fact_trail.specs.Slots.{Map as Slots, key_cmp, is_rough_at}
use Rattle.fact_trail.specs.Rows.{class_facts_of, properties_of}
use Rattle.fact_trail.specs.Moments.{map_of}
use Rattle.flow_facts.specs.Known.{Map, both, joined, is_constant_number}
use Rattle.refine_flow.specs.declared.facts.Facts.{Facts}
use Rattle.refine_flow.specs.Standing.{slot_of, type_in, shown, known}

-- a list without elements has none of some kind
none_any : {A : Type 0} (p : A → Bool) (xs : List A) → length xs ≡ 0 → list_any p xs ≡ false
none_any p [] none = refl
none_any p (x ∷ xs) none = cc

-- what would be there where it held does not hold
not_there : (b there : Bool) → (b ≡ true → there ≡ true) → there ≡ false → b ≡ false
not_there true there is none = sym (is refl) ∙ none
not_there false there is none = refl

smooth_fact : (x : Option Fact) → is_rough_at x ≡ false → both (option_map ty_of x) (option_map ty_of x) ≡ option_map ty_of x
smooth_fact None smooth = refl
smooth_fact (Some f) smooth = ap Some (f.settled smooth)

smooth_in : (m : Slots) → ((s : Slot) → is_rough_at (m s) ≡ false) → (s : Option Slot) → both (type_in m s) (type_in m s) ≡ type_in m s
smooth_in m smooth None = refl
smooth_in m smooth (Some s) = smooth_fact (m s) (smooth s)

own_known : (dead : Bool) (m : Map) → (λ q. both (m q) (m q)) ≡ m → joined (if dead then None else Some m) (if dead then None else Some m) ≡ (if dead then None else Some m)
own_known true m same = refl
own_known false m same = ap Some same

pub own_join : (f : Facts) (v : Variables) (c d : ClassFacts) (p : Properties) (cs ds : BTreeSet ℕ) (ks : BTreeSet Key) → v ≡ f.trail.variables → c ≡ v.constants → d ≡ v.changing → p ≡ f.trail.properties →
    ((b : ℕ) → is_rough_at (class_facts_of c b) ≡ true → contains nat_cmp cs b ≡ true) →
    ((b : ℕ) → is_rough_at (class_facts_of d b) ≡ true → contains nat_cmp ds b ≡ true) →
    ((k : Key) → is_rough_at (properties_of p k) ≡ true → contains key_cmp ks k ≡ true) →
    btree_set_len cs ≡ 0 → btree_set_len ds ≡ 0 → btree_set_len ks ≡ 0 → joined (known f) (known f) ≡ known f
own_join f v c d p cs ds ks own one two properties constants changing rest no_constant no_changing no_property = own_known f.dead (shown f) (λ i q. smooth_in (map_of f.trail) smooth (slot_of f.names q) i)
  where
    smooth : (s : Slot) → is_rough_at (map_of f.trail s) ≡ false
    smooth (Variable b) = at (is_constant_number b)
      where
        at : (t : Bool) → is_rough_at (if t then class_facts_of f.trail.variables.constants b else class_facts_of f.trail.variables.changing b) ≡ false
        at true =
            ap (λ x. is_rough_at (class_facts_of x b)) (sym (one ∙ ap (λ x. x.constants) own))
            ∙ not_there (is_rough_at (class_facts_of c b)) (contains nat_cmp cs b) (constants b) (none_any _ cs.keys no_constant)
        at false =
            ap (λ x. is_rough_at (class_facts_of x b)) (sym (two ∙ ap (λ x. x.changing) own))
            ∙ not_there (is_rough_at (class_facts_of d b)) (contains nat_cmp ds b) (changing b) (none_any _ ds.keys no_changing)
    smooth (Property k) =
        ap (λ x. is_rough_at (properties_of x k)) (sym properties)
        ∙ not_there (is_rough_at (properties_of p k)) (contains key_cmp ks k) (rest k) (none_any _ ks.keys no_property)
