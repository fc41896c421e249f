-- The slots that a change drops, and the places.
use Rattle.std.proofs.Common.{◌≡◌, ◌==◌, ◌||◌, ◌&&◌, not, ℕ, Bool, true, false, List, Option, Some, None, refl, sym, ap, ◌∙◌, if◌then◌else◌, arith}
use Rattle.std.proofs.lemmas.Bool.{eqb-true, eq-eqb}
use Rattle.std.proofs.lemmas.Bool.Decides.{nat_tests}
use Rattle.std.specs.Cmp.Lexicographic.{bytes_decides}
use Rattle.std.specs.Option.{is_some}
use Rattle.fact_trail.specs.declared.slot.Slot.TheVariants.{Variable, Property}
use Rattle.fact_trail.specs.declared.slot.Slot.{Slot}
use Rattle.fact_trail.specs.Slots.{is_number}
use Rattle.fact_trail.specs.Slots as slots
use Rattle.flow_facts.specs.declared.place.Place.{Place}
use Rattle.flow_facts.specs.Cells.{is_text}
use Rattle.flow_facts.specs.Known.{Map, without, is_property, is_named, is_some_text, is_of}
use Rattle.refine_flow.specs.declared.names.Names.{Names}
use Rattle.refine_flow.specs.Numbers.{number_of}
use Rattle.refine_flow.specs.Standing.{slot_of, slot_by, is_lost}
use Rattle.refine_flow.proofs.Growing.{some_same, names_apart}
use Rattle.refine_flow.proofs.Places.{named_slot}

-- two tests that hold together are the same
both_ways : (b c : Bool) → (b ≡ true → c ≡ true) → (c ≡ true → b ≡ true) → b ≡ c
both_ways true c to from = sym (to refl)
both_ways false true to from = from refl
both_ways false false to from = refl

-- what a property's slot says of its name
pub property_slot : (names : Names) (b : ℕ) (x : Option (List ℕ)) (t : Slot) → slot_by names b x ≡ Some t → slots.is_property t ≡ is_some x
property_slot names b None t here = ap slots.is_property (sym (some_same (Variable b) t here))
property_slot names b (Some x) t here = let there = named_slot names b x t (number_of names x) refl here in ap slots.is_property (sym there.2)

pub properties_alike : (names : Names) (q : Place) (t : Slot) → slot_of names q ≡ Some t → slots.is_property t ≡ is_property q
properties_alike names q t here = property_slot names q.binding q.prop t here

named_alike_by : (names : Names) (n : ℕ) (name : List ℕ) → number_of names name ≡ Some n → (b : ℕ) (x : Option (List ℕ)) (t : Slot) → slot_by names b x ≡ Some t → slots.is_named n t ≡ is_some_text name x
named_alike_by names n name is b None t here = ap (slots.is_named n) (sym (some_same (Variable b) t here))
named_alike_by names n name is b (Some own) t here =
    let there = named_slot names b own t (number_of names own) refl here in
    ap (slots.is_named n) (sym there.2)
    ∙ both_ways (n == there.0) (is_text own name)
    (λ same. (bytes_decides own name).1 (names_apart names own name there.0 there.1 (is ∙ ap Some (eqb-true n there.0 same))))
    (λ same. eq-eqb n there.0 (some_same n there.0 (sym is ∙ sym (ap (number_of names) ((bytes_decides own name).0 same)) ∙ there.1)))

-- the properties of a name that has a number
pub named_alike : (names : Names) (n : ℕ) (name : List ℕ) → number_of names name ≡ Some n → (q : Place) (t : Slot) → slot_of names q ≡ Some t → slots.is_named n t ≡ is_named name q
named_alike names n name is q t here = named_alike_by names n name is q.binding q.prop t here

unnamed_by : (names : Names) (name : List ℕ) → number_of names name ≡ None → (b : ℕ) (x : Option (List ℕ)) (t : Slot) → slot_by names b x ≡ Some t → false ≡ is_some_text name x
unnamed_by names name is b None t here = refl
unnamed_by names name is b (Some own) t here =
    let there = named_slot names b own t (number_of names own) refl here in
    both_ways false (is_text own name) (λ no. cc) (λ same. absurd (let both : Some there.0 ≡ None = sym there.1 ∙ ap (number_of names) ((bytes_decides own name).0 same) ∙ is in cc))

-- a name without a number is that of no slot
pub unnamed : (names : Names) (name : List ℕ) → number_of names name ≡ None → (q : Place) (t : Slot) → slot_of names q ≡ Some t → false ≡ is_named name q
unnamed names name is q t here = unnamed_by names name is q.binding q.prop t here

-- a variable, or a property of it
abbrev pub is_of_slot : ℕ → Slot → Bool
is_of_slot binding (Variable b) = binding == b
is_of_slot binding (Property k) = binding == k.binding

of_alike_by : (names : Names) (binding b : ℕ) (x : Option (List ℕ)) (t : Slot) → slot_by names b x ≡ Some t → is_of_slot binding t ≡ (binding == b)
of_alike_by names binding b None t here = ap (is_of_slot binding) (sym (some_same (Variable b) t here))
of_alike_by names binding b (Some own) t here = let there = named_slot names b own t (number_of names own) refl here in ap (is_of_slot binding) (sym there.2)

pub of_alike : (names : Names) (binding : ℕ) (q : Place) (t : Slot) → slot_of names q ≡ Some t → is_of_slot binding t ≡ is_of binding q
of_alike names binding q t here = of_alike_by names binding q.binding q.prop t here

-- what is dropped in two steps
pub without_both : (g h : Place → Bool) (m : Map) → without h (without g m) ≡ without (λ q. g q || h q) m
without_both g h m = λ i q. at (g q) (h q) (m q) i
  where
    at : {A : Type 0} (b c : Bool) (o : Option A) → (if c then None else (if b then None else o)) ≡ (if b || c then None else o)
    at true true o = refl
    at true false o = refl
    at false true o = refl
    at false false o = refl

pub number_alike : (a b : ℕ) → is_number a b ≡ (a == b)
number_alike a b = grind (arith, nat_tests)

or_nothing : (b : Bool) → b ≡ (b || false)
or_nothing true = refl
or_nothing false = refl

-- the variable and its properties
pub of_both : (binding : ℕ) (s : Slot) → is_of_slot binding s ≡ (slots.is_slot (Variable binding) s || slots.is_of binding s)
of_both binding (Variable b) = sym (number_alike binding b) ∙ or_nothing (is_number binding b)
of_both binding (Property q) = refl

lost_by : (names : Names) (kept : ℕ → Bool) (b : ℕ) (x : Option (List ℕ)) (t : Slot) → slot_by names b x ≡ Some t → is_lost kept t ≡ (not (is_some x) && not (kept b))
lost_by names kept b None t here = ap (is_lost kept) (sym (some_same (Variable b) t here))
lost_by names kept b (Some own) t here = let there = named_slot names b own t (number_of names own) refl here in ap (is_lost kept) (sym there.2)

-- places of variables that are none of these
pub lost_alike : (names : Names) (kept : ℕ → Bool) (q : Place) (t : Slot) → slot_of names q ≡ Some t → is_lost kept t ≡ (not (is_property q) && not (kept q.binding))
lost_alike names kept q t here = lost_by names kept q.binding q.prop t here

-- what is dropped in three steps
pub without_three : (g h k : Place → Bool) (m : Map) → without k (without h (without g m)) ≡ without (λ q. g q || h q || k q) m
without_three g h k m = λ i q. at (g q) (h q) (k q) (m q) i
  where
    at : {A : Type 0} (b c d : Bool) (o : Option A) → (if d then None else (if c then None else (if b then None else o))) ≡ (if b || c || d then None else o)
    at true true true o = refl
    at true true false o = refl
    at true false true o = refl
    at true false false o = refl
    at false true true o = refl
    at false true false o = refl
    at false false true o = refl
    at false false false o = refl

class_by : (names : Names) (constant : Bool) (b : ℕ) (x : Option (List ℕ)) (t : Slot) → slot_by names b x ≡ Some t → slots.is_variable constant t ≡ (not (is_some x) && slots.is_class constant b)
class_by names constant b None t here = ap (slots.is_variable constant) (sym (some_same (Variable b) t here))
class_by names constant b (Some own) t here = let there = named_slot names b own t (number_of names own) refl here in ap (slots.is_variable constant) (sym there.2)

-- places of variables of a class
pub class_alike : (names : Names) (constant : Bool) (q : Place) (t : Slot) → slot_of names q ≡ Some t → slots.is_variable constant t ≡ (not (is_property q) && slots.is_class constant q.binding)
class_alike names constant q t here = class_by names constant q.binding q.prop t here
