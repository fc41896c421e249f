-- Calls that drop facts, one after another.
use Rattle.std.proofs.Common.{◌≡◌, ◌<◌, ◌+◌, ◌||◌, ℕ, Bool, true, false, List, [], ◌≤◌, Option, Some, None, Result, Ok, Err, OnOk, OnErr, if◌then◌else◌, take, length, get_or, refl, sym, ap, ◌∙◌, subst, arith}
use Rattle.std.specs.List.{list_any}
use Rattle.std.proofs.lemmas.List.{take_all}
use Rattle.std.proofs.lemmas.List.Folds.{list_any_more}
use Rattle.fact_trail.specs.declared.fact.Fact.{Fact}
use Rattle.fact_trail.specs.declared.trail.Trail.{Trail}
use Rattle.fact_trail.specs.declared.slot.Slot.{Slot}
use Rattle.fact_trail.specs.Types.{ty_of}
use Rattle.fact_trail.specs.Slots.{Map as Slots, at_slot, is_slot, without as without_slots}
use Rattle.fact_trail.specs.Slots as slots
use Rattle.fact_trail.specs.Moments.{map_of, map_at, IsNew, Adds, Drops}
use Rattle.type_values.specs.declared.types.FlowType.{FlowType}
use Rattle.fact_trail.proofs.Changes.{none_now, drops_none, fresh_at_first}
use Rattle.fact_trail.proofs.Same.{same_slot}
use Rattle.flow_facts.specs.declared.place.Place.{Place}
use Rattle.flow_facts.specs.Known.{Map, live, without, without_properties, is_property, at_place}
use Rattle.refine_flow.specs.declared.names.Names.{Names}
use Rattle.refine_flow.specs.Numbers.{GrowsNames, IsBeyond}
use Rattle.refine_flow.proofs.Types.{types_at, types_without, types_grown}
use Rattle.refine_flow.specs.declared.facts.Facts.{Facts}
use Rattle.refine_flow.specs.Standing.{slot_of, types_by, known, KeepsMarks, Changes}
use Rattle.refine_flow.proofs.Gone.{without_both, properties_alike}
use Rattle.refine_flow.proofs.MarkLemmas.{grows_itself, keeps_marks, changed_twice, changed_as, known_changed, keeps_twice, nothing_changed}

-- what the elements so far drop, where there are none
pub none_dropped : {A : Type 0} (lost : A → Place → Bool) (xs : List A) (f : Facts) → Changes (without (λ q. list_any (λ x. lost x q) (take 0 xs))) f f
none_dropped lost xs f = nothing_changed f

-- what one element more drops
pub dropped_more : {A : Type 0} (lost : A → Place → Bool) (xs : List A) (i : ℕ) (d : A) (a b c : Facts) → i < length xs →
    Changes (without (λ q. list_any (λ x. lost x q) (take i xs))) a b → Changes (without (lost (get_or xs i d))) b c → Changes (without (λ q. list_any (λ x. lost x q) (take (i + 1) xs))) a c
dropped_more lost xs i d a b c within first second =
    let so_far : Place → Bool = λ q. list_any (λ x. lost x q) (take i xs) in
    changed_as (λ m. without (lost (get_or xs i d)) (without so_far m)) (without (λ q. list_any (λ x. lost x q) (take (i + 1) xs))) a c
    (λ m. without_both so_far (lost (get_or xs i d)) m ∙ (λ j. without (λ q. sym (list_any_more (λ x. lost x q) xs i d within) j) m))
    (changed_twice (without so_far) (without (lost (get_or xs i d))) a b c first second)

-- what all of them drop
pub dropped_whole : {A : Type 0} (lost : A → Place → Bool) (xs : List A) (i : ℕ) (a b : Facts) → length xs ≤ i → Changes (without (λ q. list_any (λ x. lost x q) (take i xs))) a b → Changes (without (λ q. list_any (λ x. lost x q) xs)) a b
dropped_whole lost xs i a b whole is = subst (λ l. Changes (without (λ q. list_any (λ x. lost x q) l)) a b) (take_all i xs whole) is

pub same_names : (old new : Facts) → new.names ≡ old.names → GrowsNames old.names new.names
same_names old new names = subst (λ ns. GrowsNames old.names ns) (sym names) (grows_itself old.names)

-- the same names and changes, be the facts dead or live
pub keeps_same : (old new : Facts) → new.names ≡ old.names → new.trail ≡ old.trail → new.marks ≡ old.marks → KeepsMarks old new
keeps_same old new names trail marks = keeps_marks old new marks (same_names old new names) (omega (arith, ap (λ (t : Trail). length t.changes.items) trail)) (λ n within. ap (map_at n) trail)

-- the same facts, whatever was forgotten
pub known_kept : (old new : Facts) → new.names ≡ old.names → new.dead ≡ old.dead → map_of new.trail ≡ map_of old.trail → known new ≡ known old
known_kept old new names dead same = λ i. if dead i then None else Some (types_by (names i) (same i))

-- where no mark is open, all are kept
pub no_marks : (old new : Facts) → new.names ≡ old.names → new.marks ≡ old.marks → old.marks ≡ 0 → KeepsMarks old new
no_marks old new names same none = record { count = same; names = same_names old new names; each = λ mark is. absurd (let below = is.0 in omega (arith, below, none)) }

-- a change, after which what is not needed is forgotten
pub settled_facts : (change : Map → Map) (a b c : Facts) → Changes change a b → known c ≡ known b → known c ≡ live change (known a)
settled_facts change a b c is same = same ∙ known_changed change a b is

pub settled_marks : (change : Map → Map) (a b c : Facts) → Changes change a b → KeepsMarks b c → KeepsMarks a c
settled_marks change a b c is kept = keeps_twice a b c is.marks kept

-- a call of the trail that drops the facts on some slots
pub dropped_slots : (old new : Facts) (gone : Slot → Bool) (lost : Place → Bool) → new.names ≡ old.names → new.dead ≡ old.dead → new.marks ≡ old.marks →
    ((q : Place) (t : Slot) → slot_of old.names q ≡ Some t → gone t ≡ lost q) → Drops gone old.trail new.trail → Changes (without lost) old new
dropped_slots old new gone lost names dead marks alike drops = record {
  types = ap (λ ns. types_by ns (map_of new.trail)) names ∙ types_without old.names gone lost (map_of old.trail) (map_of new.trail) alike drops.facts;
  dead = dead;
  marks = keeps_marks old new marks (same_names old new names) drops.longer drops.moments;
}

-- one that drops the facts on all properties
pub properties_forgotten : (old new : Facts) → new.names ≡ old.names → new.dead ≡ old.dead → new.marks ≡ old.marks → Drops slots.is_property old.trail new.trail → Changes without_properties old new
properties_forgotten old new names dead marks drops = dropped_slots old new slots.is_property is_property names dead marks (properties_alike old.names) drops

-- two calls of the trail that drop
pub drops_both : (g h both : Slot → Bool) (a b c : Trail) → ((s : Slot) → both s ≡ (g s || h s)) → Drops g a b → Drops h b c → Drops both a c
drops_both g h both a b c are first second = record {
  facts = second.facts ∙ ap (without_slots h) first.facts ∙ (λ i s. at (g s) (h s) (map_of a s) i) ∙ (λ i s. if sym (are s) i then None else map_of a s);
  longer = omega (arith, first.longer, second.longer);
  moments = λ n within. second.moments n (omega (arith, within, first.longer)) ∙ first.moments n within;
  fresh = λ s was. second.fresh s (first.fresh s was);
}
  where
    at : {A : Type 0} (b c : Bool) (o : Option A) → (if c then None else (if b then None else o)) ≡ (if b || c then None else o)
    at true true o = refl
    at true false o = refl
    at false true o = refl
    at false false o = refl

-- a call that sets the fact at a slot, after the place's name got a number
pub set_slot : (old mid new : Facts) (p : Place) (s : Slot) (fact : Fact) → Changes (λ m. m) old mid → new.names ≡ mid.names → new.dead ≡ mid.dead → new.marks ≡ mid.marks → slot_of mid.names p ≡ Some s →
    map_of new.trail ≡ at_slot s (Some fact) (map_of mid.trail) → Adds s mid.trail new.trail → Changes (at_place p (Some (ty_of fact))) old new
set_slot old mid new p s fact stays names dead marks there is adds = changed_twice (λ m. m) (at_place p (Some (ty_of fact))) old mid new stays (record {
  types = ap (λ ns. types_by ns (map_of new.trail)) names ∙ types_at mid.names p s (Some fact) (map_of mid.trail) (map_of new.trail) there is;
  dead = dead;
  marks = keeps_marks mid new marks (same_names mid new names) adds.longer adds.moments;
})

-- one that failed to
pub kept_slot : (old mid new : Facts) (s : Slot) → Changes (λ m. m) old mid → new.names ≡ mid.names → new.dead ≡ mid.dead → new.marks ≡ mid.marks → map_of new.trail ≡ map_of mid.trail → Adds s mid.trail new.trail → Changes (λ m. m) old new
kept_slot old mid new s stays names dead marks is adds = changed_twice (λ m. m) (λ m. m) old mid new stays (record {
  types = (λ i. types_by (names i) (is i));
  dead = dead;
  marks = keeps_marks mid new marks (same_names mid new names) adds.longer adds.moments;
})

-- the same, whatever the result
pub put_slot : {T E : Type 0} (r : Result T E) (old mid new : Facts) (p : Place) (s : Slot) (fact : Fact) → Changes (λ m. m) old mid → new.names ≡ mid.names → new.dead ≡ mid.dead → new.marks ≡ mid.marks → slot_of mid.names p ≡ Some s →
    (t : FlowType) → ty_of fact ≡ t → OnOk r (map_of new.trail ≡ at_slot s (Some fact) (map_of mid.trail)) → Adds s mid.trail new.trail → OnOk r (Changes (at_place p (Some t)) old new)
put_slot (Ok x) old mid new p s fact stays names dead marks there t ty is adds =
    changed_as (at_place p (Some (ty_of fact))) (at_place p (Some t)) old new (λ m i. at_place p (Some (ty i)) m) (set_slot old mid new p s fact stays names dead marks there is adds)
put_slot (Err x) old mid new p s fact stays names dead marks there t ty is adds = tt

pub put_refused : {T E : Type 0} (r : Result T E) (old mid new : Facts) (s : Slot) → Changes (λ m. m) old mid → new.names ≡ mid.names → new.dead ≡ mid.dead → new.marks ≡ mid.marks →
    OnErr r (map_of new.trail ≡ map_of mid.trail) → Adds s mid.trail new.trail → OnErr r (Changes (λ m. m) old new)
put_refused (Ok x) old mid new s stays names dead marks is adds = tt
put_refused (Err x) old mid new s stays names dead marks is adds = kept_slot old mid new s stays names dead marks is adds

-- nothing is dropped where no slot is of a place that is lost
pub nothing_lost : (f : Facts) (lost : Place → Bool) → ((q : Place) (t : Slot) → slot_of f.names q ≡ Some t → false ≡ lost q) → Changes (without lost) f f
nothing_lost f lost alike = dropped_slots f f (λ s. false) lost refl refl refl alike (drops_none (λ s. false) f.trail f.trail refl refl refl)

-- no fact stands on a slot of a name without a number, where one was set at another slot
pub tidy_set : (names : Names) (s : Slot) (old new : Trail) → (IsBeyond names s → ⊥) → Adds s old new → ((q : Slot) → IsBeyond names q → IsNew q old) → (q : Slot) → IsBeyond names q → IsNew q new
tidy_set names s old new within adds tidy q beyond = adds.fresh q (at (is_slot s q) refl) (tidy q beyond)
  where
    at : (b : Bool) → is_slot s q ≡ b → is_slot s q ≡ false
    at false is = is
    at true is = absurd (within (subst (IsBeyond names) (sym (same_slot s q is)) beyond))

-- names that get numbers
pub numbered : (old new : Facts) → GrowsNames old.names new.names → new.trail ≡ old.trail → new.dead ≡ old.dead → new.marks ≡ old.marks → Changes (λ m. m) old new
numbered old new grows trail dead marks = record {
  types = ap (λ (t : Trail). types_by new.names (map_of t)) trail ∙ types_grown old.names new.names (map_of old.trail) grows (λ s beyond. none_now old.trail s (old.tidy s beyond));
  dead = dead;
  marks = keeps_marks old new marks grows (omega (arith, ap (λ (t : Trail). length t.changes.items) trail)) (λ n within. ap (map_at n) trail);
}

-- nor where what was changed is forgotten
pub tidy_forgotten : (names : Names) (old new : Trail) → new.changes.items ≡ [] → map_of new ≡ map_of old → ((s : Slot) → IsBeyond names s → IsNew s old) → (s : Slot) → IsBeyond names s → IsNew s new
tidy_forgotten names old new nothing same tidy s beyond = fresh_at_first new s nothing (ap (λ (m : Slots). m s) same ∙ none_now old s (tidy s beyond))
