-- All facts as rows.
use Rattle.std.proofs.Common.{◌≡◌, ℕ, Bool, true, false, ◌||◌, List, [], ◌∷◌, ◌++◌, Option, Some, None, refl, sym, ap, ◌∙◌, subst, if◌then◌else◌}
use Rattle.std.proofs.lemmas.List.Folds.{list_any-append}
use Rattle.std.specs.List.{list_any}
use Rattle.std.specs.Option.{is_some, option_map}
use Rattle.std.specs.Ordering.{nat_cmp}
use Rattle.std.specs.BTreeMap.{is_at}
use Rattle.fact_trail.specs.declared.fact.Fact.{Fact}
use Rattle.fact_trail.specs.declared.class_facts.ClassFacts.{ClassFacts}
use Rattle.fact_trail.specs.declared.slot.Slot.TheVariants.{Variable, Property}
use Rattle.fact_trail.specs.declared.slot.Slot.{Slot}
use Rattle.fact_trail.specs.declared.slot.Key.{Key}
use Rattle.fact_trail.specs.Rows.{class_facts_of}
use Rattle.fact_trail.specs.Types.{ty_of}
use Rattle.fact_trail.specs.Slots.{key_cmp, is_number, is_key}
use Rattle.fact_trail.proofs.Same.{same_number, same_key}
use Rattle.fact_trail.specs.Moments.{map_of}
use Rattle.flow_facts.specs.declared.place.Place.{Place}
use Rattle.flow_facts.specs.Known.{Map, no_facts, at_place, is_place, both, variable_place, property_place}
use Rattle.refine_flow.specs.declared.names.Names.{Names}
use Rattle.refine_flow.specs.declared.facts.Facts.{Facts}
use Rattle.refine_flow.specs.declared.whole.Row.{Row}
use Rattle.refine_flow.specs.Numbers.{number_of, name_of}
use Rattle.refine_flow.specs.Whole.{told, met, is_listed, AreTrue, AddsTrue}
use Rattle.refine_flow.specs.Standing.{slot_of, slot_by, slot_named, type_in, shown}
use Rattle.refine_flow.proofs.Places.{same_place, place_itself}

true_end : (m : Map) (rows : List Row) (row : Row) → AreTrue m rows → m row.place ≡ Some row.ty → AreTrue m (rows ++ row ∷ [])
true_end m [] row all one = (one, tt)
true_end m (x ∷ rows) row all one = (all.0, true_end m rows row all.1 one)

or_true : (b : Bool) → (b || true) ≡ true
or_true true = refl
or_true false = refl

-- a row more
pub adds_row : (m : Map) (old new : List Row) (row : Row) → new ≡ old ++ row ∷ [] → m row.place ≡ Some row.ty → AddsTrue m old new
adds_row m old new row are one = (
  λ all. subst (AreTrue m) (sym are) (true_end m old row all one),
  λ q is. ap (λ l. is_listed l q) are ∙ list_any-append (λ x. is_place x.place q) old (row ∷ []) ∙ ap (λ b. b || is_listed (row ∷ []) q) is,
)

pub listed_row : (old new : List Row) (row : Row) → new ≡ old ++ row ∷ [] → is_listed new row.place ≡ true
listed_row old new row are =
    ap (λ l. is_listed l row.place) are ∙ list_any-append (λ x. is_place x.place row.place) old (row ∷ []) ∙ ap (λ b. is_listed old row.place || (b || false)) (place_itself row.place) ∙ or_true (is_listed old row.place)

pub adds_itself : (m : Map) (rows : List Row) → AddsTrue m rows rows
adds_itself m rows = (λ all. all, λ q is. is)

pub adds_then : (m : Map) (a b c : List Row) → AddsTrue m a b → AddsTrue m b c → AddsTrue m a c
adds_then m a b c first second = (λ all. second.0 (first.0 all), λ q is. second.1 q (first.1 q is))

-- a place with a row has what the map has
told_listed : (m n : Map) (rows : List Row) (q : Place) → AreTrue m rows → is_listed rows q ≡ true → told rows n q ≡ m q
told_listed m n [] q all is = cc
told_listed m n (row ∷ rows) q all is = at (is_place row.place q) refl (told_listed m n rows q all.1)
  where
    at : (b : Bool) → is_place row.place q ≡ b → (is_listed rows q ≡ true → told rows n q ≡ m q) → (if is_place row.place q then Some row.ty else told rows n q) ≡ m q
    at true same rest = ap (λ b. if b then Some row.ty else told rows n q) same ∙ sym all.0 ∙ ap m (same_place row.place q same)
    at false other rest = ap (λ b. if b then Some row.ty else told rows n q) other ∙ rest (sym (ap (λ b. b || is_listed rows q) other) ∙ is)

told_unlisted : (n : Map) (rows : List Row) (q : Place) → is_listed rows q ≡ false → told rows n q ≡ n q
told_unlisted n [] q is = refl
told_unlisted n (row ∷ rows) q is = at (is_place row.place q) refl (told_unlisted n rows q)
  where
    at : (b : Bool) → is_place row.place q ≡ b → (is_listed rows q ≡ false → told rows n q ≡ n q) → (if is_place row.place q then Some row.ty else told rows n q) ≡ n q
    at true same rest = absurd (clash (sym (ap (λ b. b || is_listed rows q) same) ∙ is))
      where
        clash : true ≡ false → ⊥
        clash both' = cc
    at false other rest = ap (λ b. if b then Some row.ty else told rows n q) other ∙ rest (sym (ap (λ b. b || is_listed rows q) other) ∙ is)

-- rows that are true and have all places with facts tell the map
pub told_all : (m : Map) (rows : List Row) → AreTrue m rows → ((q : Place) → is_listed rows q ≡ false → m q ≡ None) → told rows no_facts ≡ m
told_all m rows all rest = λ i q. at q (is_listed rows q) refl i
  where
    at : (q : Place) (b : Bool) → is_listed rows q ≡ b → told rows no_facts q ≡ m q
    at q true is = told_listed m no_facts rows q all is
    at q false is = told_unlisted no_facts rows q is ∙ sym (rest q is)

absent_type : (o : Option Fact) → (is_some o ≡ true → ⊥) → option_map ty_of o ≡ None
absent_type None is = refl
absent_type (Some fact) is = absurd (is refl)

-- where the variables and properties that have facts are listed, the other places have none
pub unlisted_none : (f : Facts) (rows : List Row) → ((b : ℕ) → is_some (map_of f.trail (Variable b)) ≡ true → is_listed rows (variable_place b) ≡ true) →
    ((k : Key) (x : List ℕ) → name_of f.names k.name ≡ Some x → is_some (map_of f.trail (Property k)) ≡ true → is_listed rows (property_place k.binding x) ≡ true) → (q : Place) → is_listed rows q ≡ false → shown f q ≡ None
unlisted_none f rows variables properties q open' = at q.prop refl
  where
    clash : (p : Place) → p ≡ q → is_listed rows p ≡ true → ⊥
    clash p same is = let both' : true ≡ false = sym is ∙ ap (is_listed rows) same ∙ open' in absurd (differ both')
      where
        differ : true ≡ false → ⊥
        differ e = cc

    at : (x : Option (List ℕ)) → q.prop ≡ x → type_in (map_of f.trail) (slot_by f.names q.binding q.prop) ≡ None
    at None prop =
        ap (λ o. type_in (map_of f.trail) (slot_by f.names q.binding o)) prop
        ∙ absent_type (map_of f.trail (Variable q.binding)) (λ there. clash (variable_place q.binding) (λ i. record { prop = sym prop i; binding = q.binding }) (variables q.binding there))
    at (Some x) prop = ap (λ o. type_in (map_of f.trail) (slot_by f.names q.binding o)) prop ∙ by (number_of f.names x) refl
      where
        by : (o : Option ℕ) → number_of f.names x ≡ o → type_in (map_of f.trail) (option_map (slot_named q.binding) (number_of f.names x)) ≡ None
        by None none = ap (λ o. type_in (map_of f.trail) (option_map (slot_named q.binding) o)) none
        by (Some n) is =
            ap (λ o. type_in (map_of f.trail) (option_map (slot_named q.binding) o)) is
            ∙ absent_type (map_of f.trail (slot_named q.binding n)) (λ there. clash (property_place q.binding x) (λ i. record { prop = sym prop i; binding = q.binding }) (properties (record { name = n; binding = q.binding }) x (f.names.told x n is) there))

told_end : (rows : List Row) (row : Row) (m : Map) → told (rows ++ row ∷ []) m ≡ told rows (at_place row.place (Some row.ty) m)
told_end [] row m = refl
told_end (x ∷ rows) row m = ap (at_place x.place (Some x.ty)) (told_end rows row m)

-- the last row told
pub told_last : (all rest : List Row) (row : Row) (m n : Map) → all ≡ rest ++ row ∷ [] → n ≡ at_place row.place (Some row.ty) m → told rest n ≡ told all m
told_last all rest row m n are made = ap (told rest) made ∙ sym (told_end rest row m) ∙ ap (λ l. told l m) (sym are)

pub met_end : (others : Map) (rows : List Row) (row : Row) (m : Map) → met others (rows ++ row ∷ []) m ≡ met others rows (at_place row.place (both (Some row.ty) (others row.place)) m)
met_end others [] row m = refl
met_end others (x ∷ rows) row m = ap (at_place x.place (both (Some x.ty) (others x.place))) (met_end others rows row m)

-- a place with a row is joined, and the others stay
met_at : (others m : Map) (rows : List Row) (q : Place) → met others rows m q ≡ (if is_listed rows q then both (told rows no_facts q) (others q) else m q)
met_at others m [] q = refl
met_at others m (row ∷ rows) q = by (is_place row.place q) refl (met_at others m rows q)
  where
    by : (b : Bool) → is_place row.place q ≡ b → met others rows m q ≡ (if is_listed rows q then both (told rows no_facts q) (others q) else m q) →
        (if is_place row.place q then both (Some row.ty) (others row.place) else met others rows m q) ≡ (if is_place row.place q || is_listed rows q then both (if is_place row.place q then Some row.ty else told rows no_facts q) (others q) else m q)
    by true same rest =
        ap (λ b. if b then both (Some row.ty) (others row.place) else met others rows m q) same ∙ ap (λ p. both (Some row.ty) (others p)) (same_place row.place q same)
        ∙ ap (λ b. if b || is_listed rows q then both (if b then Some row.ty else told rows no_facts q) (others q) else m q) (sym same)
    by false other rest =
        ap (λ b. if b then both (Some row.ty) (others row.place) else met others rows m q) other ∙ rest
        ∙ ap (λ b. if b || is_listed rows q then both (if b then Some row.ty else told rows no_facts q) (others q) else m q) (sym other)

-- rows that tell the map, joined with others
pub met_all : (others m : Map) (rows : List Row) → told rows no_facts ≡ m → met others rows m ≡ (λ q. both (m q) (others q))
met_all others m rows tells = λ i q. (met_at others m rows q ∙ whole q (is_listed rows q) refl) i
  where
    whole : (q : Place) (b : Bool) → is_listed rows q ≡ b → (if is_listed rows q then both (told rows no_facts q) (others q) else m q) ≡ both (m q) (others q)
    whole q true is = ap (λ b. if b then both (told rows no_facts q) (others q) else m q) is ∙ ap (λ (l : Map). both (l q) (others q)) tells
    whole q false is =
        let none : m q ≡ None = sym (ap (λ (l : Map). l q) tells) ∙ told_unlisted no_facts rows q is in
        ap (λ b. if b then both (told rows no_facts q) (others q) else m q) is ∙ none ∙ ap (λ o. both o (others q)) (sym none)

-- ---- going over the keys of rows

-- those that are not listed are among the rest
pub rows_left : {J K : Type 0} (key : J → K) (place : J → Place) (test : K → K → Bool) (P : J → Type 0) (ks rest : List K) (k : K) (old new : List Row) → ks ≡ k ∷ rest → ((q : Place) → is_listed old q ≡ true → is_listed new q ≡ true) →
    ((j : J) → test (key j) k ≡ true → P j → is_listed new (place j) ≡ true) → ((j : J) → P j → is_listed old (place j) ≡ false → list_any (test (key j)) ks ≡ true) →
    (j : J) → P j → is_listed new (place j) ≡ false → list_any (test (key j)) rest ≡ true
rows_left {J} {K} key place test P ks rest k old new are keeps here left j is not_listed = at (test (key j) k) refl
  where
    clash : (b : Bool) → b ≡ true → b ≡ false → ⊥
    clash b holds fails = let both' : true ≡ false = sym holds ∙ fails in apart both'
      where
        apart : true ≡ false → ⊥
        apart e = cc

    before : (t : Bool) → is_listed old (place j) ≡ t → t ≡ false
    before true listed = absurd (clash (is_listed new (place j)) (keeps (place j) listed) not_listed)
    before false listed = refl

    among : list_any (test (key j)) (k ∷ rest) ≡ true
    among = sym (ap (list_any (test (key j))) are) ∙ left j is (before (is_listed old (place j)) refl)

    at : (t : Bool) → test (key j) k ≡ t → list_any (test (key j)) rest ≡ true
    at true equal = absurd (clash (is_listed new (place j)) (here j equal is) not_listed)
    at false other = sym (ap (λ t. t || list_any (test (key j)) rest) other) ∙ among

-- facts on the variables of a class, of those that have one
abbrev pub HasBoth : ClassFacts → Facts → ℕ → Type 0
HasBoth c f b = (is_some (class_facts_of c b) ≡ true) × (is_some (map_of f.trail (Variable b)) ≡ true)

pub variables_left : (c : ClassFacts) (f : Facts) (ks rest : List ℕ) (k : ℕ) (old new : List Row) → ks ≡ k ∷ rest → AddsTrue (shown f) old new → (is_some (map_of f.trail (Variable k)) ≡ true → is_listed new (variable_place k) ≡ true) →
    ((b : ℕ) → HasBoth c f b → is_listed old (variable_place b) ≡ false → list_any (is_at (nat_cmp b)) ks ≡ true) →
    (b : ℕ) → HasBoth c f b → is_listed new (variable_place b) ≡ false → list_any (is_at (nat_cmp b)) rest ≡ true
variables_left c f ks rest k old new are adds here left =
    rows_left (λ (b : ℕ). b) variable_place is_number (HasBoth c f) ks rest k old new are adds.1
    (λ b same there. let is : b ≡ k = same_number b k same in subst (λ q. is_listed new (variable_place q) ≡ true) (sym is) (here (sym (ap (λ q. is_some (map_of f.trail (Variable q))) is) ∙ there.1))) left

pub properties_left : (f : Facts) (ks rest : List Key) (k : Key) (old new : List Row) → ks ≡ k ∷ rest → AddsTrue (shown f) old new →
    ((x : List ℕ) → name_of f.names k.name ≡ Some x → is_some (map_of f.trail (Property k)) ≡ true → is_listed new (property_place k.binding x) ≡ true) →
    ((q : Key) (x : List ℕ) → name_of f.names q.name ≡ Some x → is_some (map_of f.trail (Property q)) ≡ true → is_listed old (property_place q.binding x) ≡ false → list_any (is_at (key_cmp q)) ks ≡ true) →
    (q : Key) (x : List ℕ) → name_of f.names q.name ≡ Some x → is_some (map_of f.trail (Property q)) ≡ true → is_listed new (property_place q.binding x) ≡ false → list_any (is_at (key_cmp q)) rest ≡ true
properties_left f ks rest k old new are adds here left q x named there =
    rows_left (λ (j : Key × List ℕ). j.0) (λ j. property_place j.0.binding j.1) is_key (λ j. (name_of f.names j.0.name ≡ Some j.1) × (is_some (map_of f.trail (Property j.0)) ≡ true)) ks rest k old new are adds.1
    (λ j same is. let equal : j.0 ≡ k = same_key j.0 k same in
    subst (λ (i : Key). name_of f.names i.name ≡ Some j.1 → is_some (map_of f.trail (Property i)) ≡ true → is_listed new (property_place i.binding j.1) ≡ true) (sym equal) (here j.1) is.0 is.1)
    (λ j is. left j.0 j.1 is.0 is.1) (q, x) (named, there)

-- a name's number makes the slot of its properties
pub slot_numbered : (names : Names) (k : Key) (x : List ℕ) → name_of names k.name ≡ Some x → slot_by names k.binding (Some x) ≡ Some (Property k)
slot_numbered names k x is = ap (option_map (slot_named k.binding)) (names.numbered k.name x is)

-- a place has its slot's type
pub shown_at : (f : Facts) (q : Place) (s : Slot) (fact : Fact) → slot_of f.names q ≡ Some s → map_of f.trail s ≡ Some fact → shown f q ≡ Some (ty_of fact)
shown_at f q s fact there is = ap (type_in (map_of f.trail)) there ∙ ap (option_map ty_of) is
