-- Keys and slots that are compared as equal are the same.
use Rattle.std.proofs.Common.{◌≡◌, ℕ, nat_eq, Bool, true, false, refl, sym, ap, ◌∙◌, arith}
use Rattle.std.specs.Ordering.{nat_cmp, is_eq, ordering_then}
use Rattle.std.proofs.lemmas.Bool.Decides.{nat_tests}
use Rattle.fact_trail.specs.declared.slot.Slot.TheVariants.{Variable, Property}
use Rattle.fact_trail.specs.Slots.{Key, Slot, turned_cmp, turn, is_number, is_key, is_slot, is_named, is_other_named, is_of}

pub then_equal : (a b c d : ℕ) → is_eq (ordering_then (nat_cmp a b) (nat_cmp c d)) ≡ true → (a ≡ b) × (c ≡ d)
then_equal a b c d is = (grind (arith, nat_tests), grind (arith, nat_tests))

pub same_number : (m n : ℕ) → is_number m n ≡ true → m ≡ n
same_number m n is = grind (arith, nat_tests)

pub number_itself : (n : ℕ) → is_number n n ≡ true
number_itself n = grind (arith, nat_tests)

pub same_key : (p q : Key) → is_key p q ≡ true → p ≡ q
same_key p q is = let both = then_equal p.name q.name p.binding q.binding is in λ i. record { name = both.0 i; binding = both.1 i }

pub key_itself : (p : Key) → is_key p p ≡ true
key_itself p = grind (arith, nat_tests)

-- a key and its turned form are compared alike
pub turned_alike : (p q : Key) → is_eq (turned_cmp (turn p) (turn q)) ≡ is_key p q
turned_alike p q = grind (arith, nat_tests)

pub same_slot : (s q : Slot) → is_slot s q ≡ true → s ≡ q
same_slot (Variable a) (Variable b) is = ap Variable (same_number a b is)
same_slot (Variable a) (Property k) is = cc
same_slot (Property k) (Variable b) is = cc
same_slot (Property p) (Property q) is = ap Property (same_key p q is)

pub slot_itself : (s : Slot) → is_slot s s ≡ true
slot_itself (Variable a) = number_itself a
slot_itself (Property k) = key_itself k

named_key : (p q : Key) (name : ℕ) → p.name ≡ name → nat_eq name q.name ≡ false → is_key p q ≡ false
named_key p q name here other = grind (arith, nat_tests)

owned_key : (p q : Key) (binding : ℕ) → p.binding ≡ binding → nat_eq binding q.binding ≡ false → is_key p q ≡ false
owned_key p q binding here other = grind (arith, nat_tests)

-- a slot with another name is another slot
pub named_apart : (k : Key) (s : Slot) (name : ℕ) → k.name ≡ name → is_named name s ≡ false → is_slot (Property k) s ≡ false
named_apart k (Variable b) name here other = refl
named_apart k (Property q) name here other = named_key k q name here other

-- one of another variable is another slot
pub owned_apart : (k : Key) (s : Slot) (binding : ℕ) → k.binding ≡ binding → is_of binding s ≡ false → is_slot (Property k) s ≡ false
owned_apart k (Variable b) binding here other = refl
owned_apart k (Property q) binding here other = owned_key k q binding here other

-- another slot than those that share the name of a property
pub other_apart : (key k : Key) (s : Slot) → is_other_named key (Property k) ≡ true → is_other_named key s ≡ false → is_slot (Property k) s ≡ false
other_apart key k s here left = at (is_slot (Property k) s) refl
  where
    at : (b : Bool) → is_slot (Property k) s ≡ b → is_slot (Property k) s ≡ false
    at false other = other
    at true same = absurd (let clash : true ≡ false = sym here ∙ ap (is_other_named key) (same_slot (Property k) s same) ∙ left in cc)
