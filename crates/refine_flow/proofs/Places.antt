-- Places that are compared as equal are the same, and each place with a number has a slot of its own.
use Rattle.std.proofs.Common.{◌≡◌, ℕ, Bool, true, false, List, Option, Some, None, Ordering, refl, sym, ap, ◌∙◌, subst, arith}
use Rattle.std.specs.declared.cmp.Ordering.TheVariants.{Less, Equal, Greater}
use Rattle.std.specs.Option.{option_cmp, option_map}
use Rattle.std.specs.Ordering.{nat_cmp, is_eq, ordering_then}
use Rattle.std.specs.Cmp.Lexicographic.{slice_cmp}
use Rattle.std.proofs.lemmas.Bool.Decides.{nat_tests}
use Rattle.alias_table.proofs.Texts.{same_text, text_itself}
use Rattle.fact_trail.specs.declared.slot.Slot.TheVariants.{Variable, Property}
use Rattle.fact_trail.specs.declared.slot.Slot.{Slot}
use Rattle.fact_trail.specs.Slots.{is_slot}
use Rattle.fact_trail.proofs.Same.{same_slot, slot_itself}
use Rattle.flow_facts.specs.declared.place.Place.{Place}
use Rattle.flow_facts.specs.Known.{is_place}
use Rattle.refine_flow.specs.declared.names.Names.{Names}
use Rattle.refine_flow.specs.Numbers.{number_of, IsBeyond}
use Rattle.refine_flow.specs.Standing.{slot_of, slot_by, slot_named}
use Rattle.refine_flow.proofs.Growing.{some_same, names_apart, number_below}

then_equal : (r s : Ordering) → is_eq (ordering_then r s) ≡ true → (is_eq r ≡ true) × (is_eq s ≡ true)
then_equal Less s is = cc
then_equal Equal s is = (refl, is)
then_equal Greater s is = cc

same_number : (m n : ℕ) → is_eq (nat_cmp m n) ≡ true → m ≡ n
same_number m n is = grind (arith, nat_tests)

same_name : (x y : Option (List ℕ)) → is_eq (option_cmp (slice_cmp nat_cmp) x y) ≡ true → x ≡ y
same_name None None is = refl
same_name None (Some y) is = cc
same_name (Some x) None is = cc
same_name (Some x) (Some y) is = ap Some (same_text x y is)

pub same_place : (p q : Place) → is_place p q ≡ true → p ≡ q
same_place p q is =
    let both = then_equal (option_cmp (slice_cmp nat_cmp) p.prop q.prop) (nat_cmp p.binding q.binding) is in
    let name = same_name p.prop q.prop both.0 in let number = same_number p.binding q.binding both.1 in
    λ i. record { prop = name i; binding = number i }

number_itself : (n : ℕ) → is_eq (nat_cmp n n) ≡ true
number_itself n = grind (arith, nat_tests)

equal_then : (r s : Ordering) → is_eq r ≡ true → is_eq s ≡ true → is_eq (ordering_then r s) ≡ true
equal_then Less s is same = cc
equal_then Equal s is same = same
equal_then Greater s is same = cc

name_itself : (x : Option (List ℕ)) → is_eq (option_cmp (slice_cmp nat_cmp) x x) ≡ true
name_itself None = refl
name_itself (Some x) = text_itself x

pub place_itself : (p : Place) → is_place p p ≡ true
place_itself p = equal_then (option_cmp (slice_cmp nat_cmp) p.prop p.prop) (nat_cmp p.binding p.binding) (name_itself p.prop) (number_itself p.binding)

-- the slot of a name's number is that number's
pub named_slot : (names : Names) (b : ℕ) (x : List ℕ) (s : Slot) (o : Option ℕ) → number_of names x ≡ o → option_map (slot_named b) o ≡ Some s → (n : ℕ) × (number_of names x ≡ Some n) × (slot_named b n ≡ s)
named_slot names b x s None is there = cc
named_slot names b x s (Some n) is there = (n, is, some_same (slot_named b n) s there)

abbrev name_in : Slot → ℕ
name_in (Variable b) = 0
name_in (Property k) = k.name

abbrev variable_in : Slot → ℕ
variable_in (Variable b) = b
variable_in (Property k) = k.binding

property_same : (b c m n : ℕ) → slot_named b m ≡ slot_named c n → (b ≡ c) × (m ≡ n)
property_same b c m n is = (ap variable_in is, ap name_in is)

variable_same : (b c : ℕ) → Variable b ≡ Variable c → b ≡ c
variable_same b c is = ap variable_in is

-- two places with one slot are the same
one_slot : (names : Names) (b c : ℕ) (x y : Option (List ℕ)) (s : Slot) → slot_by names b x ≡ Some s → slot_by names c y ≡ Some s → (b ≡ c) × (x ≡ y)
one_slot names b c None None s first second = (variable_same b c (some_same (Variable b) (Variable c) (first ∙ sym second)), refl)
one_slot names b c None (Some y) s first second =
    let there = named_slot names c y s (number_of names y) refl second in absurd (let clash : Variable b ≡ slot_named c there.0 = some_same (Variable b) s first ∙ sym there.2 in cc)
one_slot names b c (Some x) None s first second =
    let there = named_slot names b x s (number_of names x) refl first in absurd (let clash : Variable c ≡ slot_named b there.0 = some_same (Variable c) s second ∙ sym there.2 in cc)
one_slot names b c (Some x) (Some y) s first second =
    let here = named_slot names b x s (number_of names x) refl first in
    let there = named_slot names c y s (number_of names y) refl second in
    let both = property_same b c here.0 there.0 (here.2 ∙ sym there.2) in
    (both.0, ap Some (names_apart names x y there.0 (here.1 ∙ ap Some both.1) there.1))

pub one_place : (names : Names) (p q : Place) (s : Slot) → slot_of names p ≡ Some s → slot_of names q ≡ Some s → p ≡ q
one_place names p q s first second =
    let both = one_slot names p.binding q.binding p.prop q.prop s first second in λ i. record { prop = both.1 i; binding = both.0 i }

-- slots are compared as their places are
pub compared_alike : (names : Names) (p q : Place) (s t : Slot) → slot_of names p ≡ Some s → slot_of names q ≡ Some t → is_slot s t ≡ is_place p q
compared_alike names p q s t first second = at (is_slot s t) (is_place p q) refl refl
  where
    at : (b c : Bool) → is_slot s t ≡ b → is_place p q ≡ c → is_slot s t ≡ is_place p q
    at true true slots places = slots ∙ sym places
    at false false slots places = slots ∙ sym places
    at true false slots places =
        let same = one_place names p q t (first ∙ ap Some (same_slot s t slots)) second in
        absurd (let both : true ≡ false = sym (place_itself p) ∙ ap (is_place p) same ∙ places in cc)
    at false true slots places =
        let same = some_same s t (sym first ∙ ap (slot_of names) (same_place p q places) ∙ second) in
        absurd (let both : true ≡ false = sym (slot_itself s) ∙ ap (is_slot s) same ∙ slots in cc)

-- a place without a slot is none that has one
pub slotless_apart : (names : Names) (p q : Place) (s : Slot) → slot_of names p ≡ Some s → slot_of names q ≡ None → is_place p q ≡ false
slotless_apart names p q s first none = at (is_place p q) refl
  where
    at : (b : Bool) → is_place p q ≡ b → is_place p q ≡ false
    at false is = is
    at true is = absurd (let both : Some s ≡ None = sym first ∙ ap (slot_of names) (same_place p q is) ∙ none in cc)

-- a place's slot is none of a name that has no number
pub not_beyond : (names : Names) (b : ℕ) (x : Option (List ℕ)) (s : Slot) → slot_by names b x ≡ Some s → IsBeyond names s → ⊥
not_beyond names b None s here beyond = subst (IsBeyond names) (sym (some_same (Variable b) s here)) beyond
not_beyond names b (Some x) s here beyond =
    let there = named_slot names b x s (number_of names x) refl here in
    let is : IsBeyond names (slot_named b there.0) = subst (IsBeyond names) (sym there.2) beyond in
    let below = number_below names x there.0 there.1 in
    omega (arith, is, below)

pub placed_not_beyond : (names : Names) (p : Place) (s : Slot) → slot_of names p ≡ Some s → IsBeyond names s → ⊥
placed_not_beyond names p s here beyond = not_beyond names p.binding p.prop s here beyond
