-- A fact that is set before others are dropped.
use Rattle.std.proofs.Common.{◌≡◌, ◌==◌, ◌&&◌, not, ℕ, Bool, true, false, List, Option, Some, None, refl, sym, ap, ◌∙◌, if◌then◌else◌}
use Rattle.std.specs.Option.{option_map}
use Rattle.type_values.specs.declared.types.FlowType.{FlowType}
use Rattle.fact_trail.specs.declared.slot.Slot.TheVariants.{Variable, Property}
use Rattle.fact_trail.specs.declared.slot.Slot.{Slot}
use Rattle.fact_trail.specs.declared.slot.Key.{Key}
use Rattle.fact_trail.specs.Slots.{is_number, is_slot}
use Rattle.fact_trail.specs.Slots as slots
use Rattle.flow_facts.specs.declared.place.Place.{Place}
use Rattle.flow_facts.specs.Known.{Map, no_facts, without, without_properties, is_property, is_place, at_place, overwrites, is_named, is_of, variable_place, property_place, is_constant_number}
use Rattle.refine_flow.specs.declared.names.Names.{Names}
use Rattle.refine_flow.specs.declared.facts.Facts.{Facts}
use Rattle.refine_flow.specs.Numbers.{number_of}
use Rattle.refine_flow.specs.Standing.{slot_of, slot_named, overwrites_other, Changes}
use Rattle.refine_flow.proofs.Places.{compared_alike}
use Rattle.refine_flow.proofs.Gone.{named_alike, unnamed, of_alike, is_of_slot, number_alike}
use Rattle.refine_flow.proofs.MarkLemmas.{changed_twice, changed_as}
use Rattle.refine_flow.proofs.Assigning.{overwrites_as}

-- what is set first stays where others are dropped
others_after : (p : Place) (v : Option FlowType) (m : Map) → without (overwrites_other p) (at_place p v m) ≡ at_place p v (without (overwrites p) m)
others_after p v m = λ i q. at (is_place p q) (overwrites p q) v (m q) i
  where
    at : (same over : Bool) (v u : Option FlowType) → (if over && not same then None else (if same then v else u)) ≡ (if same then v else (if over then None else u))
    at true true v u = refl
    at true false v u = refl
    at false true v u = refl
    at false false v u = refl

pub set_over : (p : Place) (t : FlowType) (old mid new : Facts) → Changes (at_place p (Some t)) old mid → Changes (without (overwrites_other p)) mid new → Changes (λ m. at_place p (Some t) (without (overwrites p) m)) old new
set_over p t old mid new first second =
    changed_as (λ m. without (overwrites_other p) (at_place p (Some t) m)) (λ m. at_place p (Some t) (without (overwrites p) m)) old new (others_after p (Some t))
    (changed_twice (at_place p (Some t)) (without (overwrites_other p)) old mid new first second)

-- ---- what is dropped of other places

pub others_named : (p : Place) (name : List ℕ) (old new : Facts) → p.prop ≡ Some name → Changes (without (λ q. is_named name q && not (is_place (property_place p.binding name) q))) old new → Changes (without (overwrites_other p)) old new
others_named p name old new prop is =
    changed_as (without (λ q. is_named name q && not (is_place (property_place p.binding name) q))) (without (overwrites_other p)) old new
    (λ m i q. if sym (overwrites_as p (Some name) q prop) i && not (is_place (record { prop = sym prop i; binding = p.binding }) q) then None else m q) is

pub others_of : (p : Place) (old new : Facts) → p.prop ≡ None → Changes (without (λ q. is_of p.binding q && not (is_place (variable_place p.binding) q))) old new → Changes (without (overwrites_other p)) old new
others_of p old new prop is =
    changed_as (without (λ q. is_of p.binding q && not (is_place (variable_place p.binding) q))) (without (overwrites_other p)) old new
    (λ m i q. if sym (overwrites_as p None q prop) i && not (is_place (record { prop = sym prop i; binding = p.binding }) q) then None else m q) is

-- ---- the slots of these places

split_named : (key : Key) (t : Slot) → slots.is_other_named key t ≡ (slots.is_named key.name t && not (is_slot (Property key) t))
split_named key (Variable b) = refl
split_named key (Property k) = refl

pub others_alike : (names : Names) (n : ℕ) (name : List ℕ) (binding : ℕ) → number_of names name ≡ Some n → (q : Place) (t : Slot) → slot_of names q ≡ Some t →
    slots.is_other_named (record { name = n; binding = binding }) t ≡ (is_named name q && not (is_place (property_place binding name) q))
others_alike names n name binding is q t here =
    split_named (record { name = n; binding = binding }) t
    ∙ (λ i. named_alike names n name is q t here i && not (compared_alike names (property_place binding name) q (slot_named binding n) t (ap (option_map (slot_named binding)) is) here i))

nothing_and : (b : Bool) → (false && b) ≡ false
nothing_and b = refl

-- a name without a number is that of no slot
pub unnamed_other : (names : Names) (name : List ℕ) (binding : ℕ) → number_of names name ≡ None → (q : Place) (t : Slot) → slot_of names q ≡ Some t → false ≡ (is_named name q && not (is_place (property_place binding name) q))
unnamed_other names name binding is q t here = λ i. unnamed names name is q t here i && not (is_place (property_place binding name) q)

split_of : (binding : ℕ) (t : Slot) → slots.is_of binding t ≡ (is_of_slot binding t && not (is_slot (Variable binding) t))
split_of binding (Variable b) = sym (clash (binding == b)) ∙ (λ i. (binding == b) && not (sym (number_alike binding b) i))
  where
    clash : (t : Bool) → (t && not t) ≡ false
    clash true = refl
    clash false = refl
split_of binding (Property k) = sym (all (binding == k.binding))
  where
    all : (t : Bool) → (t && true) ≡ t
    all true = refl
    all false = refl

pub others_of_alike : (names : Names) (binding : ℕ) (q : Place) (t : Slot) → slot_of names q ≡ Some t → slots.is_of binding t ≡ (is_of binding q && not (is_place (variable_place binding) q))
others_of_alike names binding q t here = split_of binding t ∙ (λ i. of_alike names binding q t here i && not (compared_alike names (variable_place binding) q (Variable binding) t refl here i))

-- ---- all facts

-- properties and the variables of both classes are all places
pub all_gone : (a b c d : Facts) → Changes without_properties a b → Changes (without (λ q. not (is_property q) && slots.is_class true q.binding)) b c → Changes (without (λ q. not (is_property q) && slots.is_class false q.binding)) c d → Changes (λ m. no_facts) a d
all_gone a b c d first second third =
    let one : Place → Bool = λ q. not (is_property q) && slots.is_class true q.binding in
    let two : Place → Bool = λ q. not (is_property q) && slots.is_class false q.binding in
    changed_as (λ m. without two (without one (without_properties m))) (λ m. no_facts) a d (λ m i q. at (is_property q) (is_constant_number q.binding) (m q) i)
    (changed_twice (λ m. without one (without_properties m)) (without two) a c d (changed_twice without_properties (without one) a b c first second) third)
  where
    at : (p k : Bool) (o : Option FlowType) → (if not p && not k then None else (if not p && k then None else (if p then None else o))) ≡ None
    at true true o = refl
    at true false o = refl
    at false true o = refl
    at false false o = refl
