-- What is said of slots, and changes put before it.
use Rattle.std.proofs.Common.{◌≡◌, ◌<◌, ℕ, Bool, true, false, ◌||◌, List, [], ◌∷◌, length, Option, Some, None, Result, Ok, Err, OnOk, Ordering, refl, sym, ap, ◌∙◌, subst, if◌then◌else◌, arith}
use Rattle.std.specs.Map.{lookup}
use Rattle.std.specs.Option.{is_some}
use Rattle.std.specs.Ordering.{nat_cmp}
use Rattle.std.specs.BTreeMap.{BTreeMap, get, is_at, Updates, btree_map_len}
use Rattle.fact_trail.specs.declared.fact.Fact.{Fact}
use Rattle.fact_trail.specs.declared.class_facts.ClassFacts.{ClassFacts}
use Rattle.fact_trail.specs.declared.properties.Properties.{Properties}
use Rattle.fact_trail.specs.declared.slot.Slot.TheVariants.{Variable, Property}
use Rattle.fact_trail.specs.declared.slot.Key.{Key}
use Rattle.fact_trail.specs.declared.slot.Slot.{Slot}
use Rattle.fact_trail.specs.Slots.{Map, key_cmp, at_number, at_key, at_slot, is_slot, is_number, is_key, is_class, is_variable, is_property}
use Rattle.fact_trail.specs.Rows.{class_facts_of, properties_of}
use Rattle.fact_trail.specs.Moments.{with_class, with_properties}
use Rattle.fact_trail.proofs.Same.{same_number, same_key, same_slot}
use Rattle.fact_arms.specs.declared.difference.Difference.{Difference}
use Rattle.fact_arms.specs.Differences.{said_else, said_of, is_said, class_gone, is_among, is_gone, over, with_variables, with_keys}
use Rattle.fact_arms.proofs.Classes.{class_among, properties_among}

-- ---- no rows

pub wrong : false ≡ true → ⊥
wrong both = cc

pub none_in : {K X : Type 0} (cmp : K → K → Ordering) (rows : BTreeMap K X) → rows.entries ≡ [] → (k : K) → get cmp rows k ≡ None
none_in {K} {X} cmp rows empty k = ap (lookup (is_at (cmp k))) empty

pub no_entries : {K X : Type 0} (rows : BTreeMap K X) → (0 < btree_map_len rows → ⊥) → rows.entries ≡ []
no_entries {K} {X} rows none = at rows.entries refl
  where
    at : (es : List (K × X)) → rows.entries ≡ es → rows.entries ≡ []
    at [] is = is
    at (e ∷ es) is = absurd (none (subst (λ (l : List (K × X)). 0 < length l) (sym is) (omega arith)))

pub nothing_said : (d : Difference) → d.variables.entries ≡ [] → d.properties.entries ≡ [] → (s : Slot) → said_of d s ≡ None
nothing_said d variables properties (Variable b) = none_in nat_cmp d.variables variables b
nothing_said d variables properties (Property k) = none_in key_cmp d.properties properties k

-- ---- one slot

pub says_variable : (old new : Difference) (b : ℕ) (fact : Option Fact) → Updates nat_cmp old.variables new.variables b (Some fact) → new.properties ≡ old.properties →
    (s : Slot) → said_of new s ≡ (if is_slot (Variable b) s then Some fact else said_of old s)
says_variable old new b fact updates others (Variable c) = updates.0 c
says_variable old new b fact updates others (Property k) = ap (λ rows. get key_cmp rows k) others

pub says_property : (old new : Difference) (k : Key) (fact : Option Fact) → Updates key_cmp old.properties new.properties k (Some fact) → new.variables ≡ old.variables →
    (s : Slot) → said_of new s ≡ (if is_slot (Property k) s then Some fact else said_of old s)
says_property old new k fact updates others (Variable c) = ap (λ rows. get nat_cmp rows c) others
says_property old new k fact updates others (Property q) = updates.0 q

-- the same of a slot that is this one
pub says_at : {T E : Type 0} (r : Result T E) (old new : Difference) (slot t : Slot) (fact : Option Fact) → slot ≡ t → OnOk r ((s : Slot) → said_of new s ≡ (if is_slot t s then Some fact else said_of old s)) →
    OnOk r ((s : Slot) → said_of new s ≡ (if is_slot slot s then Some fact else said_of old s))
says_at (Ok x) old new slot t fact here says = λ s. says s ∙ ap (λ (q : Slot). if is_slot q s then Some fact else said_of old s) (sym here)
says_at (Err x) old new slot t fact here says = tt

pub gone_same : (old new : Difference) → new.gone ≡ old.gone → (s : Slot) → is_gone new s ≡ is_gone old s
gone_same old new same s = ap (λ g. is_among g s) same

-- what is before something that is settled makes no difference
pub added_settled : (d : Difference) (slot : Slot) (fact : Option Fact) (b : Bool) → b ≡ (is_said d slot || is_gone d slot) → b ≡ true → (m : Map) → over d m ≡ over d (at_slot slot fact m)
added_settled d slot fact b tells holds m = λ i s. at s (is_slot slot s) refl i
  where
    settled : (o : Option (Option Fact)) (g : Bool) (x y : Option Fact) → (is_some o || g) ≡ true → said_else o (if g then None else x) ≡ said_else o (if g then None else y)
    settled (Some f) g x y is = refl
    settled None true x y is = refl
    settled None false x y is = cc

    at : (s : Slot) (t : Bool) → is_slot slot s ≡ t → said_else (said_of d s) (if is_gone d s then None else m s) ≡ said_else (said_of d s) (if is_gone d s then None else (if is_slot slot s then fact else m s))
    at s true same = settled (said_of d s) (is_gone d s) (m s) (if is_slot slot s then fact else m s) (sym (ap (λ q. is_said d q || is_gone d q) (same_slot slot s same)) ∙ sym tells ∙ holds)
    at s false other = ap (λ t. said_else (said_of d s) (if is_gone d s then None else (if t then fact else m s))) (sym other)

said_step : (old new : Difference) (slot : Slot) (fact : Option Fact) → (is_said old slot || is_gone old slot) ≡ false → ((s : Slot) → said_of new s ≡ (if is_slot slot s then Some fact else said_of old s)) →
    new.gone ≡ old.gone → (m : Map) → over new m ≡ over old (at_slot slot fact m)
said_step old new slot fact fails says gone m = λ i s. at s (is_slot slot s) refl i
  where
    unsaid : (o : Option (Option Fact)) (g : Bool) (x : Option Fact) → (is_some o || g) ≡ false → said_else o (if g then None else x) ≡ x
    unsaid None false x is = refl
    unsaid None true x is = cc
    unsaid (Some f) g x is = cc

    at : (s : Slot) (t : Bool) → is_slot slot s ≡ t → said_else (said_of new s) (if is_gone new s then None else m s) ≡ said_else (said_of old s) (if is_gone old s then None else (if is_slot slot s then fact else m s))
    at s true same =
        ap (λ o. said_else o (if is_gone new s then None else m s)) (says s ∙ ap (λ t. if t then Some fact else said_of old s) same)
        ∙ sym (
        ap (λ t. said_else (said_of old s) (if is_gone old s then None else (if t then fact else m s))) same
        ∙ unsaid (said_of old s) (is_gone old s) fact (sym (ap (λ q. is_said old q || is_gone old q) (same_slot slot s same)) ∙ fails)
        )
    at s false other =
        (λ i. said_else ((says s ∙ ap (λ t. if t then Some fact else said_of old s) other) i) (if gone_same old new gone s i then None else m s))
        ∙ ap (λ t. said_else (said_of old s) (if is_gone old s then None else (if t then fact else m s))) (sym other)

-- what is before something that is not said is said
pub added_said : {T E : Type 0} (r : Result T E) (old new : Difference) (slot : Slot) (fact : Option Fact) (b : Bool) → b ≡ (is_said old slot || is_gone old slot) → b ≡ false →
    OnOk r ((s : Slot) → said_of new s ≡ (if is_slot slot s then Some fact else said_of old s)) → new.gone ≡ old.gone → OnOk r ((m : Map) → over new m ≡ over old (at_slot slot fact m))
added_said (Ok x) old new slot fact b tells fails says gone = said_step old new slot fact (sym tells ∙ fails) says gone
added_said (Err x) old new slot fact b tells fails says gone = tt

-- ---- all properties

-- a row of properties that are before something
pub popped_property : (p p' : Properties) (k : Key) (fact : Fact) → properties_of p k ≡ Some fact → properties_of p' ≡ at_key k None (properties_of p) → (m : Map) → with_properties p m ≡ at_slot (Property k) (Some fact) (with_properties p' m)
popped_property p p' k fact was facts m = λ i s. at s i
  where
    at : (s : Slot) → with_properties p m s ≡ at_slot (Property k) (Some fact) (with_properties p' m) s
    at (Variable b) = refl
    at (Property q) = by (is_key k q) refl
      where
        by : (t : Bool) → is_key k q ≡ t → properties_of p q ≡ (if is_key k q then Some fact else properties_of p' q)
        by true same = ap (properties_of p) (sym (same_key k q same)) ∙ was ∙ sym (ap (λ t. if t then Some fact else properties_of p' q) same)
        by false other = sym (
            ap (λ t. if t then Some fact else properties_of p' q) other ∙ ap (λ (f : Key → Option Fact). f q) facts
            ∙ ap (λ t. if t then None else properties_of p q) other
            )

-- the same of variables of a class
pub popped_of_class : (c c' : ClassFacts) (b : ℕ) (fact : Fact) → class_facts_of c b ≡ Some fact → is_class c.constant b ≡ true → c'.constant ≡ c.constant → class_facts_of c' ≡ at_number b None (class_facts_of c) → (m : Map) →
    with_class c m ≡ at_slot (Variable b) (Some fact) (with_class c' m)
popped_of_class c c' b fact was own same_class facts m = λ i s. at s i
  where
    at : (s : Slot) → with_class c m s ≡ at_slot (Variable b) (Some fact) (with_class c' m) s
    at (Property k) = refl
    at (Variable q) = by (is_number b q) refl
      where
        by : (t : Bool) → is_number b q ≡ t → with_class c m (Variable q) ≡ (if is_number b q then Some fact else with_class c' m (Variable q))
        by true same =
            ap (λ t. if t then class_facts_of c q else m (Variable q)) (sym (ap (is_class c.constant) (same_number b q same)) ∙ own) ∙ ap (class_facts_of c) (sym (same_number b q same)) ∙ was
            ∙ sym (ap (λ t. if t then Some fact else with_class c' m (Variable q)) same)
        by false other = sym (
            ap (λ t. if t then Some fact else with_class c' m (Variable q)) other
            ∙ (λ i. if is_class (same_class i) q then (ap (λ (f : ℕ → Option Fact). f q) facts ∙ ap (λ t. if t then None else class_facts_of c q) other) i else m (Variable q))
            )

-- where the slots of a class are gone, what they had makes no difference
pub class_settled : (d : Difference) (of : Slot → Bool) (m n : Map) → ((s : Slot) → of s ≡ true → is_gone d s ≡ true) → ((s : Slot) → of s ≡ false → n s ≡ m s) → over d m ≡ over d n
class_settled d of m n gone others = λ i s. at s (of s) refl i
  where
    at : (s : Slot) (t : Bool) → of s ≡ t → over d m s ≡ over d n s
    at s true is = ap (λ t. said_else (said_of d s) (if t then None else m s)) (gone s is) ∙ sym (ap (λ t. said_else (said_of d s) (if t then None else n s)) (gone s is))
    at s false is = ap (λ (x : Option Fact). said_else (said_of d s) (if is_gone d s then None else x)) (sym (others s is))

-- where no fact of a class is left, its slots are gone
pub class_gone_too : (old new : Difference) (of : Slot → Bool) (m n : Map) → ((s : Slot) → said_of new s ≡ said_of old s) → ((s : Slot) → is_gone new s ≡ (of s || is_gone old s)) → ((s : Slot) → of s ≡ true → n s ≡ None) → ((s : Slot) → of s ≡ false → n s ≡ m s) →
    over new m ≡ over old n
class_gone_too old new of m n said gone none others = λ i s. at s (of s) refl i
  where
    nothing : (t : Bool) (x : Option Fact) → x ≡ None → (if t then None else x) ≡ None
    nothing true x is = refl
    nothing false x is = is

    at : (s : Slot) (t : Bool) → of s ≡ t → over new m s ≡ over old n s
    at s true is = (λ i. said_else (said s i) (if (gone s ∙ ap (λ t. t || is_gone old s) is) i then None else m s)) ∙ ap (said_else (said_of old s)) (sym (nothing (is_gone old s) (n s) (none s is)))
    at s false is = (λ i. said_else (said s i) (if (gone s ∙ ap (λ t. t || is_gone old s) is) i then None else sym (others s is) i))

other_property : (p : Properties) (m : Map) (s : Slot) → is_property s ≡ false → with_properties p m s ≡ m s
other_property p m (Variable b) is = refl
other_property p m (Property k) is = cc

other_class : (c : ClassFacts) (m : Map) (s : Slot) → is_variable c.constant s ≡ false → with_class c m s ≡ m s
other_class c m (Variable b) is = ap (λ t. if t then class_facts_of c b else m (Variable b)) is
other_class c m (Property k) is = refl

-- all properties
pub properties_settled : (d : Difference) (p : Properties) → d.gone.properties ≡ true → (m : Map) → over d m ≡ over d (with_properties p m)
properties_settled d p gone m = class_settled d is_property m (with_properties p m) (properties_among d.gone gone) (other_property p m)

pub properties_gone : (old new : Difference) (p : Properties) → ((s : Slot) → said_of new s ≡ said_of old s) → ((s : Slot) → is_gone new s ≡ (is_property s || is_gone old s)) → ((k : Key) → properties_of p k ≡ None) → (m : Map) → over new m ≡ over old (with_properties p m)
properties_gone old new p said gone none m = class_gone_too old new is_property m (with_properties p m) said gone (λ s is. at s is) (other_property p m)
  where
    at : (s : Slot) → is_property s ≡ true → with_properties p m s ≡ None
    at (Property k) is = none k
    at (Variable b) is = cc

-- all variables of a class
pub variables_settled : (d : Difference) (c : ClassFacts) (constant t : Bool) → constant ≡ c.constant → t ≡ class_gone d.gone constant → t ≡ true → (m : Map) → over d m ≡ over d (with_class c m)
variables_settled d c constant t is tells holds m =
    class_settled d (is_variable c.constant) m (with_class c m) (class_among d.gone c.constant (ap (class_gone d.gone) (sym is) ∙ sym tells ∙ holds)) (other_class c m)

pub variables_gone : (old new : Difference) (c : ClassFacts) (constant : Bool) → constant ≡ c.constant → ((s : Slot) → said_of new s ≡ said_of old s) → ((s : Slot) → is_gone new s ≡ (is_variable constant s || is_gone old s)) → ((b : ℕ) → class_facts_of c b ≡ None) →
    (m : Map) → over new m ≡ over old (with_class c m)
variables_gone old new c constant same said gone none m =
    class_gone_too old new (is_variable c.constant) m (with_class c m) said (λ s. gone s ∙ ap (λ t. is_variable t s || is_gone old s) same) (λ s is. at s is) (other_class c m)
  where
    at : (s : Slot) → is_variable c.constant s ≡ true → with_class c m s ≡ None
    at (Variable b) is = ap (λ t. if t then class_facts_of c b else m (Variable b)) is ∙ none b
    at (Property k) is = cc

-- ---- one difference behind another

pub popped_variable : (rows rows' : BTreeMap ℕ (Option Fact)) (b : ℕ) (fact : Option Fact) → get nat_cmp rows b ≡ Some fact → Updates nat_cmp rows rows' b None → (m : Map) →
    with_variables rows m ≡ at_slot (Variable b) fact (with_variables rows' m)
popped_variable rows rows' b fact was updates m = λ i s. at s i
  where
    at : (s : Slot) → with_variables rows m s ≡ at_slot (Variable b) fact (with_variables rows' m) s
    at (Property k) = refl
    at (Variable c) = by (is_number b c) refl
      where
        by : (t : Bool) → is_number b c ≡ t → said_else (get nat_cmp rows c) (m (Variable c)) ≡ (if is_number b c then fact else said_else (get nat_cmp rows' c) (m (Variable c)))
        by true same =
            ap (λ q. said_else (get nat_cmp rows q) (m (Variable c))) (sym (same_number b c same)) ∙ ap (λ o. said_else o (m (Variable c))) was
            ∙ sym (ap (λ t. if t then fact else said_else (get nat_cmp rows' c) (m (Variable c))) same)
        by false other =
            ap (λ o. said_else o (m (Variable c))) (sym (updates.2 c other)) ∙ sym (ap (λ t. if t then fact else said_else (get nat_cmp rows' c) (m (Variable c))) other)

pub popped_key : (rows rows' : BTreeMap Key (Option Fact)) (b : Key) (fact : Option Fact) → get key_cmp rows b ≡ Some fact → Updates key_cmp rows rows' b None → (m : Map) →
    with_keys rows m ≡ at_slot (Property b) fact (with_keys rows' m)
popped_key rows rows' b fact was updates m = λ i s. at s i
  where
    at : (s : Slot) → with_keys rows m s ≡ at_slot (Property b) fact (with_keys rows' m) s
    at (Variable c) = refl
    at (Property c) = by (is_key b c) refl
      where
        by : (t : Bool) → is_key b c ≡ t → said_else (get key_cmp rows c) (m (Property c)) ≡ (if is_key b c then fact else said_else (get key_cmp rows' c) (m (Property c)))
        by true same =
            ap (λ q. said_else (get key_cmp rows q) (m (Property c))) (sym (same_key b c same)) ∙ ap (λ o. said_else o (m (Property c))) was
            ∙ sym (ap (λ t. if t then fact else said_else (get key_cmp rows' c) (m (Property c))) same)
        by false other =
            ap (λ o. said_else o (m (Property c))) (sym (updates.2 c other)) ∙ sym (ap (λ t. if t then fact else said_else (get key_cmp rows' c) (m (Property c))) other)

-- no rows are left
pub ended_variables : (rows : BTreeMap ℕ (Option Fact)) → (0 < btree_map_len rows → false ≡ true) → (m : Map) → with_variables rows m ≡ m
ended_variables rows none m = λ i s. at s i
  where
    at : (s : Slot) → with_variables rows m s ≡ m s
    at (Property k) = refl
    at (Variable b) = ap (λ o. said_else o (m (Variable b))) (none_in nat_cmp rows (no_entries rows (λ more. wrong (none more))) b)

pub ended_keys : (rows : BTreeMap Key (Option Fact)) → (0 < btree_map_len rows → false ≡ true) → (m : Map) → with_keys rows m ≡ m
ended_keys rows none m = λ i s. at s i
  where
    at : (s : Slot) → with_keys rows m s ≡ m s
    at (Variable b) = refl
    at (Property k) = ap (λ o. said_else o (m (Property k))) (none_in key_cmp rows (no_entries rows (λ more. wrong (none more))) k)

-- what is said of variables and of properties was put before what is said, and at last which classes are gone
pub behind_all : (self first one two both : Difference) → ((m : Map) → over one m ≡ over self (with_variables first.variables m)) → ((m : Map) → over two m ≡ over one (with_keys first.properties m)) →
    both.variables ≡ two.variables → both.properties ≡ two.properties → ((s : Slot) → is_gone both s ≡ (is_gone two s || is_gone first s)) → (m : Map) → over both m ≡ over self (over first m)
behind_all self first one two both variables keys same_variables same_keys gone m =
    (λ i s. at s i) ∙ keys left ∙ variables (with_keys first.properties left) ∙ ap (over self) (λ i s. whole s i)
  where
    -- the facts, without those of classes that are gone
    left : Map
    left s = if is_gone first s then None else m s

    both_gone : (a b : Bool) (x : Option Fact) → (if a || b then None else x) ≡ (if a then None else (if b then None else x))
    both_gone true b x = refl
    both_gone false b x = refl

    at : (s : Slot) → over both m s ≡ over two left s
    at (Variable b) =
        (λ i. said_else (get nat_cmp (same_variables i) b) (if gone (Variable b) i then None else m (Variable b)))
        ∙ ap (said_else (get nat_cmp two.variables b)) (both_gone (is_gone two (Variable b)) (is_gone first (Variable b)) (m (Variable b)))
    at (Property k) =
        (λ i. said_else (get key_cmp (same_keys i) k) (if gone (Property k) i then None else m (Property k)))
        ∙ ap (said_else (get key_cmp two.properties k)) (both_gone (is_gone two (Property k)) (is_gone first (Property k)) (m (Property k)))

    whole : (s : Slot) → with_variables first.variables (with_keys first.properties left) s ≡ over first m s
    whole (Variable b) = refl
    whole (Property k) = refl
