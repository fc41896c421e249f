-- Slots that become fresh, and lists of them.
use Rattle.std.proofs.Common.{◌≡◌, ℕ, Bool, true, false, ◌||◌, ◌&&◌, List, [], ◌∷◌, ◌++◌, Option, Result, Ok, Err, OnOk, refl, sym, ap, ◌∙◌, if◌then◌else◌}
use Rattle.std.specs.Ordering.{nat_cmp}
use Rattle.std.specs.Option.{is_some}
use Rattle.std.specs.BTreeMap.{get}
use Rattle.std.specs.BTreeSet.{contains, Updates}
use Rattle.fact_trail.specs.declared.fact.Fact.{Fact}
use Rattle.fact_trail.specs.declared.class_facts.ClassFacts.{ClassFacts}
use Rattle.fact_trail.specs.declared.properties.Properties.{Properties}
use Rattle.fact_trail.specs.declared.trail.Change.{Change}
use Rattle.fact_trail.specs.declared.trail.Change.TheVariants.{At, Variables as all_variables, Properties as all_properties}
use Rattle.fact_trail.specs.declared.slot.Slot.TheVariants.{Variable, Property}
use Rattle.fact_trail.specs.declared.slot.Key.{Key}
use Rattle.fact_trail.specs.declared.slot.Slot.{Slot}
use Rattle.fact_trail.specs.Slots.{key_cmp, is_slot, is_number, is_key, is_variable, is_property}
use Rattle.flow_facts.specs.Known.{is_constant_number}
use Rattle.fact_arms.specs.declared.gone.Gone.{Gone}
use Rattle.fact_arms.specs.declared.difference.Difference.{Difference}
use Rattle.fact_arms.specs.declared.fresh.Fresh.{Fresh}
use Rattle.fact_arms.specs.Differences.{is_among, class_gone, is_said, is_listed}
use Rattle.fact_arms.specs.Gathering.{has_slot, is_fresh, is_at, is_of_class}
use Rattle.fact_arms.proofs.Making.{last_listed}

clash : {A : Type 0} → true ≡ false → A
clash is = absurd (apart is)
  where
    apart : true ≡ false → ⊥
    apart e = cc

as_or : (a b : Bool) → (if a then true else b) ≡ (a || b)
as_or true b = refl
as_or false b = refl

-- ---- one slot

pub added_variable : (old new : Fresh) (b : ℕ) → Updates nat_cmp old.variables new.variables b true → new.properties ≡ old.properties → (s : Slot) → has_slot new s ≡ (is_slot (Variable b) s || has_slot old s)
added_variable old new b updates others (Variable c) = updates.0 c ∙ as_or (is_number b c) (has_slot old (Variable c))
added_variable old new b updates others (Property k) = ap (λ set. contains key_cmp set k) others

pub added_property : (old new : Fresh) (k : Key) → Updates key_cmp old.properties new.properties k true → new.variables ≡ old.variables → (s : Slot) → has_slot new s ≡ (is_slot (Property k) s || has_slot old s)
added_property old new k updates others (Variable c) = ap (λ set. contains nat_cmp set c) others
added_property old new k updates others (Property q) = updates.0 q ∙ as_or (is_key k q) (has_slot old (Property q))

-- the same of a slot that is this one
pub added_at : {T E : Type 0} (r : Result T E) (old new : Fresh) (slot t : Slot) → slot ≡ t → OnOk r ((s : Slot) → has_slot new s ≡ (is_slot t s || has_slot old s)) → OnOk r ((s : Slot) → has_slot new s ≡ (is_slot slot s || has_slot old s))
added_at (Ok x) old new slot t here adds = λ s. adds s ∙ ap (λ (q : Slot). is_slot q s || has_slot old s) (sym here)
added_at (Err x) old new slot t here adds = tt

-- ---- a list of slots

-- those that are not left are fresh
pub fresh_first : (slots : List Slot) (f : Fresh) (s : Slot) → is_listed slots s ≡ true → is_listed slots s ≡ false → has_slot f s ≡ true
fresh_first slots f s is unlisted = clash (sym is ∙ unlisted)

pub fresh_more : (all left less : List Slot) (slot : Slot) (old new : Fresh) → ((s : Slot) → is_listed all s ≡ true → is_listed left s ≡ false → has_slot old s ≡ true) → left ≡ less ++ slot ∷ [] →
    ((s : Slot) → has_slot new s ≡ (is_slot slot s || has_slot old s)) → (s : Slot) → is_listed all s ≡ true → is_listed less s ≡ false → has_slot new s ≡ true
fresh_more all left less slot old new before are adds s is unlisted = adds s ∙ by (is_slot slot s) refl
  where
    by : (t : Bool) → is_slot slot s ≡ t → (is_slot slot s || has_slot old s) ≡ true
    by true same = ap (λ t. t || has_slot old s) same
    by false other = ap (λ t. t || has_slot old s) other ∙ before s is (last_listed left less slot s are ∙ (λ i. unlisted i || (other i || false)))

-- ---- a change

pub stirred_at : {T E : Type 0} (r : Result T E) (old new : Fresh) (change : Change) (slot : Slot) (fact : Option Fact) → change ≡ At slot fact → OnOk r ((s : Slot) → has_slot new s ≡ (is_slot slot s || has_slot old s)) → OnOk r ((s : Slot) → has_slot new s ≡ (is_at change s || has_slot old s))
stirred_at (Ok x) old new change slot fact is adds = λ s. adds s ∙ (λ i. is_at (sym is i) s || has_slot old s)
stirred_at (Err x) old new change slot fact is adds = tt

pub at_class : {T E : Type 0} (r : Result T E) (old new : Fresh) (change : Change) (slot : Slot) (fact : Option Fact) → change ≡ At slot fact → new.classes ≡ old.classes → OnOk r ((s : Slot) → is_among new.classes s ≡ (is_of_class change s || is_among old.classes s))
at_class (Ok x) old new change slot fact is same = λ s. ap (λ g. is_among g s) same ∙ (λ i. is_of_class (sym is i) s || is_among old.classes s)
at_class (Err x) old new change slot fact is same = tt

pub variables_stirred : (old new : Gone) (change : Change) (c : ClassFacts) (constant : Bool) → change ≡ all_variables c → constant ≡ c.constant → ((s : Slot) → is_among new s ≡ (is_variable constant s || is_among old s)) →
    (s : Slot) → is_among new s ≡ (is_of_class change s || is_among old s)
variables_stirred old new change c constant is same with' s = with' s ∙ ap (λ t. is_variable t s || is_among old s) same ∙ (λ i. is_of_class (sym is i) s || is_among old s)

pub variables_at : (f : Fresh) (change : Change) (c : ClassFacts) → change ≡ all_variables c → (s : Slot) → has_slot f s ≡ (is_at change s || has_slot f s)
variables_at f change c is s = λ i. is_at (sym is i) s || has_slot f s

pub properties_stirred : (old new : Gone) (change : Change) (p : Properties) → change ≡ all_properties p → ((s : Slot) → is_among new s ≡ (is_property s || is_among old s)) → (s : Slot) → is_among new s ≡ (is_of_class change s || is_among old s)
properties_stirred old new change p is with' s = with' s ∙ (λ i. is_of_class (sym is i) s || is_among old s)

pub properties_at : (f : Fresh) (change : Change) (p : Properties) → change ≡ all_properties p → (s : Slot) → has_slot f s ≡ (is_at change s || has_slot f s)
properties_at f change p is s = λ i. is_at (sym is i) s || has_slot f s

-- ---- slots of classes

pub said_variables : (d : Difference) (slots : List Slot) → ((b : ℕ) → is_some (get nat_cmp d.variables b) ≡ true → is_listed slots (Variable b) ≡ true) → (s : Slot) → is_property s ≡ false → is_said d s ≡ true → is_listed slots s ≡ true
said_variables d slots lists (Variable b) is says = lists b says
said_variables d slots lists (Property k) is says = clash is

pub said_properties : (d : Difference) (slots : List Slot) → ((k : Key) → is_some (get key_cmp d.properties k) ≡ true → is_listed slots (Property k) ≡ true) → (s : Slot) → is_property s ≡ true → is_said d s ≡ true → is_listed slots s ≡ true
said_properties d slots lists (Variable b) is says = clash (sym is)
said_properties d slots lists (Property k) is says = lists k says

-- none of these classes has a variable
pub no_variables : (g : Gone) (t : Bool) → t ≡ (g.constants || g.changing) → t ≡ false → (s : Slot) → is_property s ≡ false → is_among g s ≡ false
no_variables g t tells none (Property k) is = clash is
no_variables g t tells none (Variable b) is = by (is_constant_number b)
  where
    neither : (x y : Bool) → (x || y) ≡ false → (x ≡ false) × (y ≡ false)
    neither true y e = clash e
    neither false y e = (refl, e)

    by : (u : Bool) → class_gone g u ≡ false
    by true = (neither g.constants g.changing (sym tells ∙ none)).0
    by false = (neither g.constants g.changing (sym tells ∙ none)).1

pub no_properties : (g : Gone) → g.properties ≡ false → (s : Slot) → is_property s ≡ true → is_among g s ≡ false
no_properties g none (Variable b) is = clash (sym is)
no_properties g none (Property k) is = none

-- a slot that is not among the classes is not listed for them
pub not_among : (g : Gone) (slots : List Slot) (s : Slot) → is_among g s ≡ false → is_among g s ≡ true → is_listed slots s ≡ true
not_among g slots s no' yes' = clash (sym yes' ∙ no')

-- all fresh slots
pub fresh_listed : (f : Fresh) (d : Difference) (slots : List Slot) → ((s : Slot) → has_slot f s ≡ true → is_listed slots s ≡ true) → ((s : Slot) → is_property s ≡ false → is_among f.classes s ≡ true → is_said d s ≡ true → is_listed slots s ≡ true) →
    ((s : Slot) → is_property s ≡ true → is_among f.classes s ≡ true → is_said d s ≡ true → is_listed slots s ≡ true) → (s : Slot) → is_fresh f d s ≡ true → is_listed slots s ≡ true
fresh_listed f d slots has variables properties s is = by (has_slot f s) refl
  where
    both_true : (a b : Bool) → (a && b) ≡ true → (a ≡ true) × (b ≡ true)
    both_true true b e = (refl, e)
    both_true false b e = clash (sym e)

    classed : (p : Bool) → is_property s ≡ p → (is_among f.classes s ≡ true) × (is_said d s ≡ true) → is_listed slots s ≡ true
    classed true p each = properties s p each.0 each.1
    classed false p each = variables s p each.0 each.1

    by : (t : Bool) → has_slot f s ≡ t → is_listed slots s ≡ true
    by true here = has s here
    by false not_here = classed (is_property s) refl (both_true (is_among f.classes s) (is_said d s) (sym (ap (λ t. t || is_among f.classes s && is_said d s) not_here) ∙ is))
