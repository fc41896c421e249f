-- Copies of all facts that are taken over.
use Rattle.std.proofs.Common.{◌≡◌, ◌≤◌, ◌<◌, ◌+◌, ◌⊎◌, ℕ, suc, zero, Bool, true, false, not, Option, None, List, [], ◌∷◌, ◌++◌, drop, length, refl, sym, ap, ◌∙◌, inl, inr, if◌then◌else◌, arith}
use Rattle.std.specs.Option.{is_some}
use Rattle.std.proofs.lemmas.Bool.{cases_lt}
use Rattle.std.proofs.lemmas.List.{length-append}
use Rattle.flow_facts.specs.Known.{is_constant_number}
use Rattle.fact_trail.specs.declared.fact.Fact.{Fact}
use Rattle.fact_trail.specs.declared.class_facts.ClassFacts.{ClassFacts}
use Rattle.fact_trail.specs.declared.variables.Variables.{Variables}
use Rattle.fact_trail.specs.declared.properties.Properties.{Properties}
use Rattle.fact_trail.specs.declared.spare.Spare.{Spare}
use Rattle.fact_trail.specs.declared.trail.Trail.{Trail}
use Rattle.fact_trail.specs.declared.trail.Change.{Change}
use Rattle.fact_trail.specs.declared.trail.Change.TheVariants.{Variables as all_variables, Properties as all_properties}
use Rattle.fact_trail.specs.declared.slot.Slot.TheVariants.{Variable, Property}
use Rattle.fact_trail.specs.Rows.{variables_of, class_facts_of, properties_of}
use Rattle.fact_trail.specs.Slots.{Key, Slot, Map, is_class}
use Rattle.fact_trail.specs.Moments.{map_of, map_at, with_class, with_properties, undone, KeepsMoments, IsNew, IsQuiet, AreQuiet}
use Rattle.fact_trail.specs.Spares.{spare_map, TakesOver}
use Rattle.fact_trail.proofs.Changes.{one_more, none_now, quiet_undone}

-- a copy has the facts
pub spared : (spare : Spare) (f : Trail) → variables_of spare.variables ≡ variables_of f.variables → properties_of spare.properties ≡ properties_of f.properties → spare_map spare ≡ map_of f
spared spare f variables properties = λ i s. at s i
  where
    at : (s : Slot) → spare_map spare s ≡ map_of f s
    at (Variable b) = ap (λ (m : ℕ → Option Fact). m b) variables
    at (Property k) = ap (λ (m : Key → Option Fact). m k) properties

-- the three changes by which a copy is taken over
abbrev pub taken : ClassFacts → ClassFacts → Properties → List Change
taken constants changing properties = all_properties properties ∷ all_variables changing ∷ all_variables constants ∷ []

-- the variables that were there before
variables_back : (v : Variables) (n : Option Fact) (b : ℕ) → (if is_class v.changing.constant b then class_facts_of v.changing b else (if is_class v.constants.constant b then class_facts_of v.constants b else n)) ≡ variables_of v b
variables_back v n b =
    (λ i. if is_class (v.classes.1 i) b then class_facts_of v.changing b else (if is_class (v.classes.0 i) b then class_facts_of v.constants b else n)) ∙ at (is_constant_number b)
  where
    at : (t : Bool) → (if not t then class_facts_of v.changing b else (if t then class_facts_of v.constants b else n)) ≡ (if t then class_facts_of v.constants b else class_facts_of v.changing b)
    at true = refl
    at false = refl

pub taken_back : (old : Trail) (n : Map) → with_properties old.properties (with_class old.variables.changing (with_class old.variables.constants n)) ≡ map_of old
taken_back old n = λ i s. at s i
  where
    at : (s : Slot) → with_properties old.properties (with_class old.variables.changing (with_class old.variables.constants n)) s ≡ map_of old s
    at (Variable b) = variables_back old.variables (n (Variable b)) b
    at (Property k) = refl

-- the moments before the changes
pub taken_moments : (old new : Trail) → new.changes.items ≡ ((old.changes.items ++ all_properties old.properties ∷ []) ++ all_variables old.variables.changing ∷ []) ++ all_variables old.variables.constants ∷ [] → KeepsMoments (length old.changes.items) old new
taken_moments old new are k within =
    one_more two new.changes.items (all_variables old.variables.constants) (with_class old.variables.constants (map_of new)) (map_of new) are refl k (omega (arith, within, first, second))
    ∙ one_more one two (all_variables old.variables.changing) (with_class old.variables.changing (with_class old.variables.constants (map_of new))) (with_class old.variables.constants (map_of new)) refl refl k (omega (arith, within, first))
    ∙ one_more old.changes.items one (all_properties old.properties) (map_of old) (with_class old.variables.changing (with_class old.variables.constants (map_of new))) refl (taken_back old (map_of new)) k within
  where
    one : List Change
    one = old.changes.items ++ all_properties old.properties ∷ []

    two : List Change
    two = one ++ all_variables old.variables.changing ∷ []

    first : length one ≡ length old.changes.items + 1
    first = length-append old.changes.items (all_properties old.properties ∷ [])

    second : length two ≡ length one + 1
    second = length-append one (all_variables old.variables.changing ∷ [])

-- ---- slots without a fact

quiet_drop : (s : Slot) (k : ℕ) (es : List Change) → AreQuiet s es → AreQuiet s (drop k es)
quiet_drop s zero es quiet = quiet
quiet_drop s (suc k) [] quiet = tt
quiet_drop s (suc k) (e ∷ es) quiet = quiet_drop s k es quiet.1

-- none behind changes that leave the slot without one
none_behind : (s : Slot) (xs es : List Change) (m : Map) (k : ℕ) → AreQuiet s es → m s ≡ None → length xs ≤ k → undone (drop k (xs ++ es)) m s ≡ None
none_behind s [] es m k quiet none within = quiet_undone s (drop k es) m (quiet_drop s k es quiet) none
none_behind s (x ∷ xs) es m zero quiet none within = absurd (wrong within)
  where
    wrong : suc (length xs) ≤ 0 → ⊥
    wrong is = omega (arith, is)
none_behind s (x ∷ xs) es m (suc k) quiet none within = none_behind s xs es m k quiet none (omega (arith, within))

class_quiet : (s : Slot) (c : ClassFacts) → ((b : ℕ) → s ≡ Variable b → is_class c.constant b ≡ true → class_facts_of c b ≡ None) → IsQuiet s (all_variables c)
class_quiet (Property k) c none m here = here
class_quiet (Variable b) c none m here = at (is_class c.constant b) refl
  where
    at : (t : Bool) → is_class c.constant b ≡ t → (if is_class c.constant b then class_facts_of c b else m (Variable b)) ≡ None
    at true is = ap (λ t. if t then class_facts_of c b else m (Variable b)) is ∙ none b refl is
    at false is = ap (λ t. if t then class_facts_of c b else m (Variable b)) is ∙ here

properties_quiet : (s : Slot) (p : Properties) → ((k : Key) → s ≡ Property k → properties_of p k ≡ None) → IsQuiet s (all_properties p)
properties_quiet (Variable b) p none m here = here
properties_quiet (Property k) p none m here = none k refl

-- where the slot has none before, the changes leave it so
taken_quiet : (old : Trail) (s : Slot) → map_of old s ≡ None → AreQuiet s (taken old.variables.constants old.variables.changing old.properties)
taken_quiet old s none = (
  properties_quiet s old.properties (λ k is. ap (map_of old) (sym is) ∙ none),
  (
    class_quiet s old.variables.changing (λ b is here. sym (changing b here) ∙ ap (map_of old) (sym is) ∙ none),
    (class_quiet s old.variables.constants (λ b is here. sym (constant b here) ∙ ap (map_of old) (sym is) ∙ none), tt),
  ),
)
  where
    constant : (b : ℕ) → is_class old.variables.constants.constant b ≡ true → variables_of old.variables b ≡ class_facts_of old.variables.constants b
    constant b here = ap (λ t. if t then class_facts_of old.variables.constants b else class_facts_of old.variables.changing b) (sym (ap (λ c. is_class c b) old.variables.classes.0) ∙ here)

    flipped : (t : Bool) → not t ≡ true → t ≡ false
    flipped false is = refl
    flipped true is = cc

    changing : (b : ℕ) → is_class old.variables.changing.constant b ≡ true → variables_of old.variables b ≡ class_facts_of old.variables.changing b
    changing b here = ap (λ t. if t then class_facts_of old.variables.constants b else class_facts_of old.variables.changing b) (flipped (is_constant_number b) (sym (ap (λ c. is_class c b) old.variables.classes.1) ∙ here))

-- a slot that the copy leaves without a fact too gets none
pub taken_fresh : (old new : Trail) (s : Slot) → new.changes.items ≡ old.changes.items ++ taken old.variables.constants old.variables.changing old.properties → KeepsMoments (length old.changes.items) old new → map_of new s ≡ None → IsNew s old → IsNew s new
taken_fresh old new s are keeps none fresh n = at (cases_lt (length old.changes.items) n)
  where
    at : ((length old.changes.items < n) ⊎ (n ≤ length old.changes.items)) → is_some (map_at n new s) ≡ false
    at (inr within) = ap (λ (m : Map). is_some (m s)) (keeps n within) ∙ fresh n
    at (inl beyond) =
        ap (λ l. is_some (undone (drop n l) (map_of new) s)) are
        ∙ ap is_some (none_behind s old.changes.items (taken old.variables.constants old.variables.changing old.properties) (map_of new) n (taken_quiet old s (none_now old s fresh)) none (omega (arith, beyond)))

-- ---- all of it

whole : (a : List Change) (x y z : Change) → ((a ++ x ∷ []) ++ y ∷ []) ++ z ∷ [] ≡ a ++ x ∷ y ∷ z ∷ []
whole [] x y z = refl
whole (e ∷ a) x y z = ap (λ l. e ∷ l) (whole a x y z)

pub takes_over : (spare : Spare) (old new : Trail) (one two : List Change) (v : Variables) (constants changing : ClassFacts) (p : Properties) → new.variables ≡ spare.variables → new.properties ≡ spare.properties → v ≡ old.variables → p ≡ old.properties →
    constants ≡ v.constants → changing ≡ v.changing → one ≡ old.changes.items ++ all_properties p ∷ [] → two ≡ one ++ all_variables changing ∷ [] → new.changes.items ≡ two ++ all_variables constants ∷ [] → TakesOver spare old new
takes_over spare old new one two v constants changing p same_variables same_properties variables properties first second one_is two_is three_is = record {
  facts = made;
  longer = omega (arith, ap length three_is ∙ length-append two (all_variables constants ∷ []), ap length two_is ∙ length-append one (all_variables changing ∷ []), ap length one_is ∙ length-append old.changes.items (all_properties p ∷ []));
  moments = keeps;
  fresh = λ s none was. taken_fresh old new s (are ∙ whole old.changes.items (all_properties old.properties) (all_variables old.variables.changing) (all_variables old.variables.constants)) keeps (ap (λ (m : Map). m s) made ∙ none) was;
}
  where
    made : map_of new ≡ spare_map spare
    made = λ i s. at s i
      where
        at : (s : Slot) → map_of new s ≡ spare_map spare s
        at (Variable b) = ap (λ (x : Variables). variables_of x b) same_variables
        at (Property k) = ap (λ (x : Properties). properties_of x k) same_properties

    are : new.changes.items ≡ ((old.changes.items ++ all_properties old.properties ∷ []) ++ all_variables old.variables.changing ∷ []) ++ all_variables old.variables.constants ∷ []
    are =
        three_is ∙ (λ i. two_is i ++ all_variables constants ∷ [])
        ∙ (λ i. (one_is i ++ all_variables changing ∷ []) ++ all_variables constants ∷ [])
        ∙ (λ i. ((old.changes.items ++ all_properties (properties i) ∷ []) ++ all_variables ((second ∙ ap (λ (x : Variables). x.changing) variables) i) ∷ []) ++ all_variables ((first ∙ ap (λ (x : Variables). x.constants) variables) i) ∷ [])

    keeps : KeepsMoments (length old.changes.items) old new
    keeps = taken_moments old new are
