-- What changes of slots' facts make of the types of places.
use Rattle.std.proofs.Common.{◌≡◌, ◌≤◌, ◌⊎◌, ℕ, Bool, true, false, List, Option, Some, None, unwrap_or, refl, sym, ap, ◌∙◌, inl, inr, if◌then◌else◌}
use Rattle.std.specs.Option.{option_map}
use Rattle.type_values.specs.declared.types.FlowType.{FlowType}
use Rattle.fact_trail.specs.declared.fact.Fact.{Fact}
use Rattle.fact_trail.specs.declared.slot.Slot.{Slot}
use Rattle.fact_trail.specs.Slots.{Map as Slots, at_slot, is_slot, without as without_slots}
use Rattle.flow_facts.specs.declared.place.Place.{Place}
use Rattle.flow_facts.specs.Known.{no_facts, at_place, is_place, without}
use Rattle.refine_flow.specs.declared.names.Names.{Names}
use Rattle.refine_flow.specs.Numbers.{number_of, names_len, GrowsNames, IsBeyond}
use Rattle.fact_arms.specs.Differences.{type_of}
use Rattle.refine_flow.specs.Standing.{slot_of, slot_by, slot_named, type_in, types_by}
use Rattle.refine_flow.proofs.Places.{compared_alike, slotless_apart}

pub types_at : (names : Names) (p : Place) (s : Slot) (v : Option Fact) (m n : Slots) → slot_of names p ≡ Some s → n ≡ at_slot s v m → types_by names n ≡ at_place p (type_of v) (types_by names m)
types_at names p s v m n there is = λ i q. at q (slot_of names q) refl i
  where
    changed : (t : Slot) (b c : Bool) → is_slot s t ≡ b → b ≡ c → type_of (n t) ≡ (if c then type_of v else type_of (m t))
    changed t true true same alike = ap type_of (ap (λ (l : Slots). l t) is ∙ ap (λ b. if b then v else m t) same)
    changed t false false same alike = ap type_of (ap (λ (l : Slots). l t) is ∙ ap (λ b. if b then v else m t) same)
    changed t true false same alike = cc
    changed t false true same alike = cc

    at : (q : Place) (o : Option Slot) → slot_of names q ≡ o → type_in n (slot_of names q) ≡ (if is_place p q then type_of v else type_in m (slot_of names q))
    at q None none =
        ap (type_in n) none ∙ sym ((λ i. if slotless_apart names p q s there none i then type_of v else type_in m (none i)))
    at q (Some t) here =
        ap (type_in n) here ∙ changed t (is_slot s t) (is_place p q) refl (compared_alike names p q s t there here) ∙ (λ i. if is_place p q then type_of v else type_in m (sym here i))

pub types_without : (names : Names) (gone : Slot → Bool) (lost : Place → Bool) (m n : Slots) → ((q : Place) (t : Slot) → slot_of names q ≡ Some t → gone t ≡ lost q) → n ≡ without_slots gone m →
    types_by names n ≡ without lost (types_by names m)
types_without names gone lost m n alike is = λ i q. at q (slot_of names q) refl i
  where
    both_none : (b : Bool) (x y : Option FlowType) → x ≡ None → y ≡ None → x ≡ (if b then None else y)
    both_none true x y first second = first
    both_none false x y first second = first ∙ sym second

    left : (t : Slot) (b : Bool) → type_of (if b then None else m t) ≡ (if b then None else type_of (m t))
    left t true = refl
    left t false = refl

    at : (q : Place) (o : Option Slot) → slot_of names q ≡ o → type_in n (slot_of names q) ≡ (if lost q then None else type_in m (slot_of names q))
    at q None none = both_none (lost q) (type_in n (slot_of names q)) (type_in m (slot_of names q)) (ap (type_in n) none) (ap (type_in m) none)
    at q (Some t) here =
        ap (type_in n) here ∙ ap type_of (ap (λ (l : Slots). l t) is) ∙ left t (gone t) ∙ (λ i. if alike q t here i then None else type_in m (sym here i))

-- more names with numbers make no difference where no name without a number has a fact
pub types_grown : (old new : Names) (m : Slots) → GrowsNames old new → ((s : Slot) → IsBeyond old s → m s ≡ None) → types_by new m ≡ types_by old m
types_grown old new m grows tidy = λ i q. at q.binding q.prop i
  where
    named : (b : ℕ) (x : List ℕ) → ((number_of new x ≡ number_of old x) ⊎ ((number_of old x ≡ None) × (n : ℕ) × (number_of new x ≡ Some n) × (names_len old ≤ n))) →
        type_in m (option_map (slot_named b) (number_of new x)) ≡ type_in m (option_map (slot_named b) (number_of old x))
    named b x (inl same) = ap (λ o. type_in m (option_map (slot_named b) o)) same
    named b x (inr given) =
        ap (λ o. type_in m (option_map (slot_named b) o)) given.2 ∙ ap type_of (tidy (slot_named b given.1) given.3) ∙ ap (λ o. type_in m (option_map (slot_named b) o)) (sym given.0)

    at : (b : ℕ) (x : Option (List ℕ)) → type_in m (slot_by new b x) ≡ type_in m (slot_by old b x)
    at b None = refl
    at b (Some x) = named b x (grows.1 x)

-- where no slot has a fact, no place has
pub types_none : (names : Names) (m : Slots) → ((s : Slot) → m s ≡ None) → types_by names m ≡ no_facts
types_none names m none = λ i q. at (slot_of names q) i
  where
    at : (o : Option Slot) → type_in m o ≡ None
    at None = refl
    at (Some s) = ap type_of (none s)

-- a place without a slot has its declared type
pub look_without : (names : Names) (m : Slots) (q : Place) (declared : FlowType) → slot_of names q ≡ None → declared ≡ unwrap_or (types_by names m q) declared
look_without names m q declared is = ap (λ o. unwrap_or (type_in m o) declared) (sym is)

-- one with a slot has the type of its fact, if there is one
pub look_at : (names : Names) (m : Slots) (q : Place) (s : Slot) (fact : Option Fact) (declared : FlowType) → slot_of names q ≡ Some s → fact ≡ m s →
    unwrap_or (type_of fact) declared ≡ unwrap_or (types_by names m q) declared
look_at names m q s fact declared is there = ap (λ f. unwrap_or (type_of f) declared) there ∙ ap (λ o. unwrap_or (type_in m o) declared) (sym is)
