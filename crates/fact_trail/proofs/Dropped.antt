-- Changes of maps, by variables and properties.
use Rattle.std.proofs.Common.{◌≡◌, ℕ, Bool, true, false, Option, None, Result, Ok, Err, OnOk, OnErr, refl, sym, ap, ◌∙◌, if◌then◌else◌}
use Rattle.std.proofs.lemmas.Bool.{eqb-true}
use Rattle.fact_trail.specs.declared.fact.Fact.{Fact}
use Rattle.fact_trail.specs.declared.slot.Slot.TheVariants.{Variable, Property}
use Rattle.fact_trail.specs.Slots.{Key, Slot, Map, at_number, at_key, at_slot, is_slot, is_named, is_other_named, is_of, is_class, is_variable, is_property, without}
use Rattle.fact_trail.proofs.Same.{same_slot}

-- a change of a property, which leaves the variables
pub property_changed : (key : Key) (v : Option Fact) (m n : Map) → ((b : ℕ) → n (Variable b) ≡ m (Variable b)) → ((k : Key) → n (Property k) ≡ at_key key v (λ q. m (Property q)) k) → n ≡ at_slot (Property key) v m
property_changed key v m n variables properties = λ i s. at s i
  where
    at : (s : Slot) → n s ≡ at_slot (Property key) v m s
    at (Variable b) = variables b
    at (Property k) = properties k

-- a change of a variable, which leaves the properties
pub variable_changed : (b : ℕ) (v : Option Fact) (m n : Map) → ((c : ℕ) → n (Variable c) ≡ at_number b v (λ q. m (Variable q)) c) → ((k : Key) → n (Property k) ≡ m (Property k)) → n ≡ at_slot (Variable b) v m
variable_changed b v m n variables properties = λ i s. at s i
  where
    at : (s : Slot) → n s ≡ at_slot (Variable b) v m s
    at (Variable c) = variables c
    at (Property k) = properties k

-- dropping what is not there changes nothing
pub nothing_dropped : (s : Slot) (m n : Map) → n ≡ at_slot s None m → m s ≡ None → n ≡ m
nothing_dropped s m n is none = λ i q. at q (is_slot s q) refl i
  where
    at : (q : Slot) (b : Bool) → is_slot s q ≡ b → n q ≡ m q
    at q true same = ap (λ (l : Map). l q) is ∙ ap (λ b. if b then None else m q) same ∙ sym none ∙ ap m (same_slot s q same)
    at q false other = ap (λ (l : Map). l q) is ∙ ap (λ b. if b then None else m q) other

-- what loses the facts on some slots, one by one, loses those alone
pub all_dropped : (gone : Slot → Bool) (m n : Map) → ((s : Slot) → gone s ≡ false → n s ≡ m s) → ((s : Slot) → gone s ≡ true → n s ≡ None) → n ≡ without gone m
all_dropped gone m n others none = λ i s. at s (gone s) refl i
  where
    at : (s : Slot) (b : Bool) → gone s ≡ b → n s ≡ without gone m s
    at s true is = none s is ∙ sym (ap (λ b. if b then None else m s) is)
    at s false is = others s is ∙ sym (ap (λ b. if b then None else m s) is)

pub named_gone : (n : Map) (name : ℕ) → ((k : Key) → k.name ≡ name → n (Property k) ≡ None) → (s : Slot) → is_named name s ≡ true → n s ≡ None
named_gone n name none (Variable b) is = cc
named_gone n name none (Property k) is = none k (sym (eqb-true name k.name is))

pub others_gone : (n : Map) (key : Key) → ((k : Key) → is_other_named key (Property k) ≡ true → n (Property k) ≡ None) → (s : Slot) → is_other_named key s ≡ true → n s ≡ None
others_gone n key none (Variable b) is = cc
others_gone n key none (Property k) is = none k is

pub of_gone : (n : Map) (binding : ℕ) → ((k : Key) → k.binding ≡ binding → n (Property k) ≡ None) → (s : Slot) → is_of binding s ≡ true → n s ≡ None
of_gone n binding none (Variable b) is = cc
of_gone n binding none (Property k) is = none k (sym (eqb-true binding k.binding is))

-- no variable of a class has one
pub class_dropped : (m n : Map) (constant : Bool) → ((b : ℕ) → n (Variable b) ≡ (if is_class constant b then None else m (Variable b))) → ((k : Key) → n (Property k) ≡ m (Property k)) → n ≡ without (is_variable constant) m
class_dropped m n constant variables others = λ i s. at s i
  where
    at : (s : Slot) → n s ≡ without (is_variable constant) m s
    at (Variable b) = variables b
    at (Property k) = others k

-- no property has one
pub properties_dropped : (m n : Map) → ((b : ℕ) → n (Variable b) ≡ m (Variable b)) → ((k : Key) → n (Property k) ≡ None) → n ≡ without is_property m
properties_dropped m n others none = λ i s. at s i
  where
    at : (s : Slot) → n s ≡ without is_property m s
    at (Variable b) = others b
    at (Property k) = none k

-- ---- one call

pub set_variable : {T E : Type 0} (r : Result T E) (b : ℕ) (v : Option Fact) (s : Slot) (m n : Map) → s ≡ Variable b → OnOk r (◌≡◌ {A = ℕ → Option Fact} (λ c. n (Variable c)) (at_number b v (λ c. m (Variable c)))) → ((k : Key) → n (Property k) ≡ m (Property k)) →
    OnOk r (n ≡ at_slot s v m)
set_variable (Ok x) b v s m n here is others = variable_changed b v m n (λ c. ap (λ (f : ℕ → Option Fact). f c) is) others ∙ ap (λ (q : Slot). at_slot q v m) (sym here)
set_variable (Err x) b v s m n here is others = tt

pub set_property : {T E : Type 0} (r : Result T E) (k : Key) (v : Option Fact) (s : Slot) (m n : Map) → s ≡ Property k → OnOk r (◌≡◌ {A = Key → Option Fact} (λ q. n (Property q)) (at_key k v (λ q. m (Property q)))) → ((b : ℕ) → n (Variable b) ≡ m (Variable b)) →
    OnOk r (n ≡ at_slot s v m)
set_property (Ok x) k v s m n here is others = property_changed k v m n others (λ q. ap (λ (f : Key → Option Fact). f q) is) ∙ ap (λ (q : Slot). at_slot q v m) (sym here)
set_property (Err x) k v s m n here is others = tt

pub kept_variable : {T E : Type 0} (r : Result T E) (m n : Map) → OnErr r (◌≡◌ {A = ℕ → Option Fact} (λ c. n (Variable c)) (λ c. m (Variable c))) → ((k : Key) → n (Property k) ≡ m (Property k)) → OnErr r (n ≡ m)
kept_variable (Ok x) m n is others = tt
kept_variable (Err x) m n is others = λ i s. at s i
  where
    at : (s : Slot) → n s ≡ m s
    at (Variable b) = ap (λ (f : ℕ → Option Fact). f b) is
    at (Property k) = others k

pub kept_property : {T E : Type 0} (r : Result T E) (m n : Map) → OnErr r (◌≡◌ {A = Key → Option Fact} (λ k. n (Property k)) (λ k. m (Property k))) → ((b : ℕ) → n (Variable b) ≡ m (Variable b)) → OnErr r (n ≡ m)
kept_property (Ok x) m n is others = tt
kept_property (Err x) m n is others = λ i s. at s i
  where
    at : (s : Slot) → n s ≡ m s
    at (Variable b) = others b
    at (Property k) = ap (λ (f : Key → Option Fact). f k) is

pub unset_variable : (b : ℕ) (s : Slot) (m n : Map) → s ≡ Variable b → ◌≡◌ {A = ℕ → Option Fact} (λ c. n (Variable c)) (at_number b None (λ c. m (Variable c))) → ((k : Key) → n (Property k) ≡ m (Property k)) → n ≡ at_slot s None m
unset_variable b s m n here is others = variable_changed b None m n (λ c. ap (λ (f : ℕ → Option Fact). f c) is) others ∙ ap (λ (q : Slot). at_slot q None m) (sym here)

pub unset_property : (k : Key) (s : Slot) (m n : Map) → s ≡ Property k → ◌≡◌ {A = Key → Option Fact} (λ q. n (Property q)) (at_key k None (λ q. m (Property q))) → ((b : ℕ) → n (Variable b) ≡ m (Variable b)) → n ≡ at_slot s None m
unset_property k s m n here is others = property_changed k None m n others (λ q. ap (λ (f : Key → Option Fact). f q) is) ∙ ap (λ (q : Slot). at_slot q None m) (sym here)
