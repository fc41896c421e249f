-- Narrowing and assigning a place, and entering loops and functions.
use Rattle.std.proofs.Common.{◌≡◌, ◌||◌, ◌&&◌, not, ℕ, Bool, true, false, List, Option, Some, None, Result, Ok, Err, OnErr, unwrap_or, refl, sym, ap, ◌∙◌, if◌then◌else◌}
use Rattle.std.specs.List.{list_any}
use Rattle.std.specs.Option.{option_map}
use Rattle.std.proofs.lemmas.Bool.{eq-eqb}
use Rattle.std.specs.Cmp.Lexicographic.{bytes_decides}
use Rattle.type_values.specs.declared.types.FlowType.{FlowType}
use Rattle.fact_trail.specs.Slots.{is_class, is_variable}
use Rattle.fact_trail.specs.Moments.{Drops}
use Rattle.flow_facts.specs.declared.place.Place.{Place}
use Rattle.flow_facts.specs.declared.place.Killed.{Killed}
use Rattle.flow_facts.specs.declared.test.Test.{Test}
use Rattle.flow_facts.specs.Cells.{is_text}
use Rattle.flow_facts.specs.Narrowing.{narrowed}
use Rattle.flow_facts.specs.Known.{Map, Known, live, type_at, at_place, is_place, without, without_properties, is_property, is_of, is_named, is_some_text, overwrites, narrowed_at, fact_of_value, assigned, entered_loop, entered_function, is_constant_number}
use Rattle.refine_flow.specs.declared.facts.Facts.{Facts}
use Rattle.refine_flow.specs.Standing.{shown, known, is_lost, with_told, Changes}
use Rattle.refine_flow.proofs.Places.{same_place}
use Rattle.refine_flow.proofs.Gone.{without_both, without_three, lost_alike, class_alike}
use Rattle.refine_flow.proofs.MarkLemmas.{changed_twice, changed_as, known_changed}
use Rattle.refine_flow.proofs.Dropping.{dropped_slots, settled_facts}

-- facts that are live
known_live : (f : Facts) → f.dead ≡ false → known f ≡ Some (shown f)
known_live f alive = λ i. if alive i then None else Some (shown f)

-- what is said of live facts
live_as : (f g : Map → Map) (k : Known) (m : Map) → k ≡ Some m → f m ≡ g m → live f k ≡ live g k
live_as f g k m is same = ap (live f) is ∙ ap Some same ∙ sym (ap (live g) is)

-- the narrowed type is set
pub assumed : (members : FlowType → List FlowType) (test : Test) (p : Place) (declared look ty : FlowType) (old mid new : Facts) → old.dead ≡ false → look ≡ type_at (known old) p declared → ty ≡ narrowed members test look →
    Changes (at_place p (Some ty)) old mid → known new ≡ known mid → known new ≡ live (narrowed_at members test p declared) (known old)
assumed members test p declared look ty old mid new alive looked is changes same =
    settled_facts (at_place p (Some ty)) old mid new changes same
    ∙ live_as (at_place p (Some ty)) (narrowed_at members test p declared) (known old) (shown old) (known_live old alive)
    (λ i. at_place p (Some ((is ∙ ap (narrowed members test) (looked ∙ ap (λ k. type_at k p declared) (known_live old alive))) i)) (shown old))

-- facts that nothing was changed in
pub known_same : (old mid new : Facts) → Changes (λ m. m) old mid → known new ≡ known mid → known new ≡ known old
known_same old mid new changes same = same ∙ known_changed (λ m. m) old mid changes ∙ id (known old)
  where
    id : (k : Known) → live (λ m. m) k ≡ k
    id None = refl
    id (Some m) = refl

text_itself' : (x : List ℕ) → is_text x x ≡ true
text_itself' x = (bytes_decides x x).1 refl

-- what a place has is overwritten
overwrites_itself : (p : Place) → overwrites p p ≡ true
overwrites_itself p = at p.prop refl
  where
    at : (x : Option (List ℕ)) → p.prop ≡ x → unwrap_or (option_map (λ name. is_named name p) p.prop) (is_of p.binding p) ≡ true
    at None prop = ap (λ o. unwrap_or (option_map (λ name. is_named name p) o) (is_of p.binding p)) prop ∙ eq-eqb p.binding p.binding refl
    at (Some x) prop = ap (λ o. unwrap_or (option_map (λ name. is_named name p) o) (is_of p.binding p)) prop ∙ ap (is_some_text x) prop ∙ text_itself' x

pub overwrites_as : (p : Place) (x : Option (List ℕ)) (q : Place) → p.prop ≡ x → overwrites p q ≡ unwrap_or (option_map (λ name. is_named name q) x) (is_of p.binding q)
overwrites_as p x q prop = ap (λ o. unwrap_or (option_map (λ name. is_named name q) o) (is_of p.binding q)) prop

-- a property is assigned
pub overwrites_name : (p : Place) (name : List ℕ) (old new : Facts) → p.prop ≡ Some name → Changes (without (is_named name)) old new → Changes (without (overwrites p)) old new
overwrites_name p name old new prop is = changed_as (without (is_named name)) (without (overwrites p)) old new (λ m i q. if sym (overwrites_as p (Some name) q prop) i then None else m q) is

-- a variable is assigned
pub overwrites_variable : (p : Place) (old new : Facts) → p.prop ≡ None → Changes (without (is_of p.binding)) old new → Changes (without (overwrites p)) old new
overwrites_variable p old new prop is = changed_as (without (is_of p.binding)) (without (overwrites p)) old new (λ m i q. if sym (overwrites_as p None q prop) i then None else m q) is

-- what is told of a place that has nothing
told_at : (p : Place) (told : Option FlowType) (m : Map) → with_told p told (without (overwrites p) m) ≡ at_place p told (without (overwrites p) m)
told_at p (Some t) m = refl
told_at p None m = λ i q. at q (is_place p q) refl i
  where
    at : (q : Place) (b : Bool) → is_place p q ≡ b → without (overwrites p) m q ≡ (if is_place p q then None else without (overwrites p) m q)
    at q false other = sym (ap (λ b. if b then None else without (overwrites p) m q) other)
    at q true same =
        ap (without (overwrites p) m) (sym (same_place p q same)) ∙ ap (λ b. if b then None else m p) (overwrites_itself p) ∙ sym (ap (λ b. if b then None else without (overwrites p) m q) same)

-- a value is assigned
pub assigned_told : (members : FlowType → List FlowType) (below : FlowType → FlowType → Bool) (p : Place) (declared value : FlowType) (told : Option FlowType) (old put new : Facts) →
    told ≡ fact_of_value members below declared value → Changes (λ m. with_told p told (without (overwrites p) m)) old put → known new ≡ known put → known new ≡ live (assigned members below p declared value) (known old)
assigned_told members below p declared value told old put new is changes same =
    settled_facts (λ m. with_told p told (without (overwrites p) m)) old put new changes same
    ∙ (λ i. live (λ m. (told_at p told m ∙ ap (λ o. at_place p o (without (overwrites p) m)) is) i) (known old))

pub on_err : {T E : Type 0} (r : Result T E) (P : Type 0) → P → OnErr r P
on_err (Ok x) P is = tt
on_err (Err x) P is = is

-- ---- loops

pub loop_entered : (killed : Killed) (xs : List ℕ) (ys : List (List ℕ)) (a b c d : Facts) → xs ≡ killed.bindings → ys ≡ killed.props → Changes (without (λ q. list_any (λ x. is_of x q) xs)) a b →
    Changes (without (λ q. list_any (λ y. is_named y q) ys)) b c → Changes (without (λ q. killed.all_props && is_property q)) c d → Changes (entered_loop killed) a d
loop_entered killed xs ys a b c d bindings props first second third =
    let g : Place → Bool = λ q. list_any (λ x. is_of x q) xs in
    let h : Place → Bool = λ q. list_any (λ y. is_named y q) ys in
    let k : Place → Bool = λ q. killed.all_props && is_property q in
    changed_as (λ m. without k (without h (without g m))) (entered_loop killed) a d
    (λ m. without_three g h k m ∙ (λ i. without (λ q. list_any (λ x. is_of x q) (bindings i) || list_any (λ y. is_named y q) (props i) || killed.all_props && is_property q) m))
    (changed_twice (λ m. without h (without g m)) (without k) a c d (changed_twice (without g) (without h) a b c first second) third)

-- ---- functions

-- the variables that are kept, and where facts are dead none
abbrev pub is_left_out : Bool → (ℕ → Bool) → Place → Bool
is_left_out dead kept q = not (is_property q) && (dead || not (kept q.binding))

-- all go where they are dead
pub dead_left_out : (old new : Facts) (kept : ℕ → Bool) → old.dead ≡ true → new.names ≡ old.names → new.dead ≡ old.dead → new.marks ≡ old.marks → Drops (is_lost (λ b. false)) old.trail new.trail → Changes (without (is_left_out old.dead kept)) old new
dead_left_out old new kept dead names same marks drops =
    dropped_slots old new (is_lost (λ b. false)) (is_left_out old.dead kept) names same marks (λ q t here. lost_alike old.names (λ b. false) q t here ∙ (λ i. not (is_property q) && (sym dead i || not (kept q.binding)))) drops

pub others_left_out : (old new : Facts) (kept : ℕ → Bool) → old.dead ≡ false → new.names ≡ old.names → new.dead ≡ old.dead → new.marks ≡ old.marks → Drops (is_lost kept) old.trail new.trail → Changes (without (is_left_out old.dead kept)) old new
others_left_out old new kept alive names same marks drops =
    dropped_slots old new (is_lost kept) (is_left_out old.dead kept) names same marks (λ q t here. lost_alike old.names kept q t here ∙ (λ i. not (is_property q) && (sym alive i || not (kept q.binding)))) drops

-- what is left before a function's body
pub function_entered : (kept : ℕ → Bool) (old b c : Facts) (k : Known) → Changes without_properties old b → Changes (without (is_left_out b.dead kept)) b c → k ≡ Some (shown c) → k ≡ entered_function kept (known old)
function_entered kept old b c k first second is = is ∙ ap Some (second.types ∙ ap (without (is_left_out b.dead kept)) first.types ∙ (λ i. without (is_left_out (first.dead i) kept) (without_properties (shown old)))) ∙ at old.dead
  where
    none : (p x : Bool) (o : Option FlowType) → (if not p && (true || x) then None else (if p then None else o)) ≡ None
    none true x o = refl
    none false x o = refl

    some : (p x : Bool) (o : Option FlowType) → (if not p && (false || not x) then None else (if p then None else o)) ≡ (if not (not p && x) then None else o)
    some true x o = refl
    some false true o = refl
    some false false o = refl

    at : (dead : Bool) → Some (without (is_left_out dead kept) (without_properties (shown old))) ≡ entered_function kept (if dead then None else Some (shown old))
    at true = λ i. Some (λ q. none (is_property q) (not (kept q.binding)) (shown old q) i)
    at false = λ i. Some (λ q. some (is_property q) (kept q.binding) (shown old q) i)

-- the variables of a class go
pub class_left_out : (old new : Facts) (constant : Bool) → new.names ≡ old.names → new.dead ≡ old.dead → new.marks ≡ old.marks → Drops (is_variable constant) old.trail new.trail → Changes (without (λ q. not (is_property q) && is_class constant q.binding)) old new
class_left_out old new constant names same marks drops =
    dropped_slots old new (is_variable constant) (λ q. not (is_property q) && is_class constant q.binding) names same marks (class_alike old.names constant) drops

-- those that are not constant go, and the others where none is kept
pub constants_left : (keeps all : Bool) (old mid new : Facts) → all ≡ (old.dead || not keeps) → Changes (without (λ q. not (is_property q) && is_class false q.binding)) old mid →
    Changes (without (λ q. all && (not (is_property q) && is_constant_number q.binding))) mid new → Changes (without (is_left_out old.dead (λ b. keeps && is_constant_number b))) old new
constants_left keeps all old mid new is first second =
    let g : Place → Bool = λ q. not (is_property q) && is_class false q.binding in
    let h : Place → Bool = λ q. all && (not (is_property q) && is_constant_number q.binding) in
    changed_as (λ m. without h (without g m)) (without (is_left_out old.dead (λ b. keeps && is_constant_number b))) old new
    (λ m. without_both g h m ∙ (λ i. without (λ q. (ap (λ t. not (is_property q) && not (is_constant_number q.binding) || t && (not (is_property q) && is_constant_number q.binding)) is ∙ at (is_property q) (is_constant_number q.binding) old.dead keeps) i) m))
    (changed_twice (without g) (without h) old mid new first second)
  where
    at : (p k dead keeps : Bool) → (not p && not k || (dead || not keeps) && (not p && k)) ≡ (not p && (dead || not (keeps && k)))
    at true k true keeps = refl
    at true k false true = refl
    at true k false false = refl
    at false true true keeps = refl
    at false true false true = refl
    at false true false false = refl
    at false false true keeps = refl
    at false false false true = refl
    at false false false false = refl
