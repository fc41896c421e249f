-- Facts that are joined with others: planned, and then made.
use Rattle.std.proofs.Common.{◌≡◌, ◌≤◌, ◌<◌, ◌+◌, ◌⊎◌, ℕ, zero, suc, Bool, true, false, List, [], ◌∷◌, ◌++◌, take, length, get_or, Option, Some, None, Result, Ok, Err, OnOk, OnErr, IfOk, refl, sym, ap, ◌∙◌, subst, inl, inr, if◌then◌else◌, arith}
use Rattle.std.specs.Option.{is_some}
use Rattle.std.proofs.lemmas.List.{take_more, take_all}
use Rattle.type_values.specs.declared.types.FlowType.{FlowType}
use Rattle.type_terms.specs.Join.{join_of}
use Rattle.type_terms.proofs.Settled.{settled}
use Rattle.fact_trail.specs.declared.fact.Fact.{Fact}
use Rattle.fact_trail.specs.declared.slot.Slot.{Slot}
use Rattle.fact_trail.specs.declared.plans.Planned.{Planned}
use Rattle.fact_trail.specs.declared.trail.Trail.{Trail}
use Rattle.fact_trail.specs.Slots.{Map as Slots, at_slot}
use Rattle.fact_trail.specs.Moments.{map_of, Extends}
use Rattle.fact_trail.specs.Plans.{planned, Fits, Replaces}
use Rattle.fact_trail.proofs.Planning.{planned_end, end_fits}
use Rattle.fact_arms.specs.Differences.{type_of}
use Rattle.flow_facts.specs.declared.test.Cell.{Cell}
use Rattle.flow_facts.specs.declared.place.Place.{Place}
use Rattle.flow_facts.specs.Known.{Map, Known, no_facts, at_place, is_place, both, joined}
use Rattle.refine_flow.specs.declared.names.Names.{Names}
use Rattle.refine_flow.specs.declared.facts.Facts.{Facts}
use Rattle.refine_flow.specs.declared.whole.Row.{Row}
use Rattle.refine_flow.specs.Standing.{slot_of, type_in, types_by, shown, known, KeepsMarks}
use Rattle.refine_flow.specs.Whole.{told, met, AreTrue}
use Rattle.refine_flow.specs.Becoming.{left_of, IsJoint}
use Rattle.refine_flow.specs.Planning.{IsBetween, JoinsRows}
use Rattle.refine_flow.proofs.Places.{same_place}
use Rattle.refine_flow.proofs.Types.{types_at}
use Rattle.refine_flow.proofs.Listing.{met_end, met_all}
use Rattle.refine_flow.proofs.MarkLemmas.{keeps_marks}
use Rattle.refine_flow.proofs.Dropping.{same_names}
use Rattle.refine_flow.proofs.Copying.{known_by}

-- ---- one fact

pub row_alike : (row : Row) (first second : FlowType) → row.ty ≡ first → first ≡ second → row.rough ≡ false → Some first ≡ both (Some first) (Some second)
row_alike row first second own same smooth = ap Some (sym ((λ i. join_of (sym own i ∷ sym own i ∷ [])) ∙ row.settled smooth ∙ own) ∙ ap (λ (t : FlowType). join_of (first ∷ t ∷ [])) same)

pub joined_same : (first second ty : FlowType) → ty ≡ join_of (first ∷ second ∷ []) → ty ≡ first → Some first ≡ both (Some first) (Some second)
joined_same first second ty is same = ap Some (sym same ∙ is)

pub joined_so : (first second ty : FlowType) → ty ≡ join_of (first ∷ second ∷ []) → Some ty ≡ both (Some first) (Some second)
joined_so first second ty is = ap Some is

pub joint_settled : (first second ty : FlowType) → ty ≡ join_of (first ∷ second ∷ []) → join_of (ty ∷ ty ∷ []) ≡ ty
joint_settled first second ty is = (λ i. join_of (is i ∷ is i ∷ [])) ∙ settled (first ∷ second ∷ []) ∙ sym is

pub left_as : {E : Type 0} (r : Result Cell E) (ty : FlowType) (o p : Option FlowType) → o ≡ p → IfOk r (λ cell. left_of ty cell ≡ both (Some ty) p) → IfOk r (λ cell. left_of ty cell ≡ both (Some ty) o)
left_as (Ok cell) ty o p same is = is ∙ ap (both (Some ty)) (sym same)
left_as (Err x) ty o p same is = tt

-- ---- plans

-- a place with a fact has a slot
pub no_slot : (names : Names) (m : Slots) (p : Place) → slot_of names p ≡ None → is_some (types_by names m p) ≡ true → ⊥
no_slot names m p none there = clash (sym (ap (λ s. is_some (type_in m s)) none) ∙ there)
  where
    clash : false ≡ true → ⊥
    clash both' = cc

-- the fact is not rough, if there is one
abbrev pub IsSmooth : Option Fact → Type 0
IsSmooth None = Unit {0}
IsSmooth (Some fact) = fact.rough ≡ false

-- it is planned for the slot of a place
abbrev pub PlansAt : Names → Place → Option Fact → List Planned → List Planned → Type 0
PlansAt names p fact old new = (slot : Slot) × (slot_of names p ≡ Some slot) × (new ≡ old ++ record { slot = slot; fact = fact } ∷ [])

pub joins_none : (names : Names) (others m : Map) (plan : List Planned) → plan ≡ [] → JoinsRows names others m [] plan
joins_none names others m plan none n between = ((λ i. types_by names (planned (none i) n)), subst (λ l. Fits l n) (sym none) tt)

-- a place that has a type already
placed : (m : Map) (p : Place) (v : Option FlowType) → m p ≡ v → m ≡ at_place p v m
placed m p v is = λ i q. at q (is_place p q) refl i
  where
    at : (q : Place) (b : Bool) → is_place p q ≡ b → m q ≡ (if is_place p q then v else m q)
    at q true same = sym (ap m (same_place p q same)) ∙ is ∙ sym (ap (λ (b : Bool). if b then v else m q) same)
    at q false other = sym (ap (λ (b : Bool). if b then v else m q) other)

-- what a place has on the way, where its join leaves its fact
between_stays : (others m n : Map) (p : Place) (t : FlowType) → m p ≡ Some t → both (Some t) (others p) ≡ Some t → IsBetween others m n → n p ≡ both (Some t) (others p)
between_stays others m n p t has stays between = at (between p)
  where
    at : (n p ≡ m p) ⊎ (n p ≡ both (m p) (others p)) → n p ≡ both (Some t) (others p)
    at (inl same) = same ∙ has ∙ sym stays
    at (inr made) = made ∙ ap (λ o. both o (others p)) has

-- a row whose fact stays
pub joins_stays : (names : Names) (others m : Map) (row : Row) (plan : List Planned) → m row.place ≡ Some row.ty → both (Some row.ty) (others row.place) ≡ Some row.ty →
    (rows : List Row) → JoinsRows names others m rows plan → JoinsRows names others m (rows ++ row ∷ []) plan
joins_stays names others m row plan has stays rows joins n between =
    let was = joins n between in (
      was.0 ∙ ap (met others rows) (placed (types_by names n) row.place (both (Some row.ty) (others row.place)) (between_stays others m (types_by names n) row.place row.ty has stays between)) ∙ sym (met_end others rows row (types_by names n)),
      was.1,
    )

-- one place more is joined
between_more : (others m n l : Map) (p : Place) (t : FlowType) → m p ≡ Some t → l ≡ at_place p (both (Some t) (others p)) n → IsBetween others m n → IsBetween others m l
between_more others m n l p t has made between q = at (is_place p q) refl
  where
    here : (b : Bool) → is_place p q ≡ b → l q ≡ (if b then both (Some t) (others p) else n q)
    here b is = ap (λ (k : Map). k q) made ∙ ap (λ b. if b then both (Some t) (others p) else n q) is

    at : (b : Bool) → is_place p q ≡ b → (l q ≡ m q) ⊎ (l q ≡ both (m q) (others q))
    at true same = inr (here true same ∙ ap (λ o. both o (others p)) (sym has) ∙ ap (λ r. both (m r) (others r)) (same_place p q same))
    at false other = before (between q)
      where
        before : (n q ≡ m q) ⊎ (n q ≡ both (m q) (others q)) → (l q ≡ m q) ⊎ (l q ≡ both (m q) (others q))
        before (inl same) = inl (here false other ∙ same)
        before (inr joint) = inr (here false other ∙ joint)

some_fact : (o : Option Fact) → is_some (type_of o) ≡ true → is_some o ≡ true
some_fact None is = is
some_fact (Some fact) is = refl

-- a planned fact is in place of another one
replaces : (names : Names) (others m : Map) (n : Slots) (p : Place) (s : Slot) (t : FlowType) (fact : Option Fact) → slot_of names p ≡ Some s → m p ≡ Some t → type_of fact ≡ both (Some t) (others p) → IsSmooth fact → IsBetween others m (types_by names n) → Replaces fact (n s)
replaces names others m n p s t None here has is smooth between = tt
replaces names others m n p s t (Some fact) here has is smooth between = (smooth, some_fact (n s) (ap is_some (sym (ap (type_in n) here)) ∙ at (between p)))
  where
    at : (types_by names n p ≡ m p) ⊎ (types_by names n p ≡ both (m p) (others p)) → is_some (types_by names n p) ≡ true
    at (inl same) = ap is_some (same ∙ has)
    at (inr made) = ap is_some (made ∙ ap (λ o. both o (others p)) has ∙ sym is)

-- a row whose fact becomes another one
pub joins_more : (names : Names) (others m : Map) (row : Row) (fact : Option Fact) (old new : List Planned) → m row.place ≡ Some row.ty → type_of fact ≡ both (Some row.ty) (others row.place) → IsSmooth fact → PlansAt names row.place fact old new →
    (rows : List Row) → JoinsRows names others m rows old → JoinsRows names others m (rows ++ row ∷ []) new
joins_more names others m row fact old new has is smooth plans rows joins n between = (
  ap (λ l. types_by names (planned l n)) plans.2 ∙ ap (types_by names) (planned_end old one n) ∙ was.0 ∙ ap (met others rows) made ∙ sym (met_end others rows row (types_by names n)),
  subst (λ l. Fits l n) (sym plans.2) (end_fits old one n (replaces names others m n row.place plans.0 row.ty fact plans.1 has is smooth between) was.1),
)
  where
    one : Planned
    one = record { slot = plans.0; fact = fact }

    next : Slots
    next = at_slot plans.0 fact n

    made : types_by names next ≡ at_place row.place (both (Some row.ty) (others row.place)) (types_by names n)
    made = types_at names row.place plans.0 fact n next plans.1 refl ∙ ap (λ v. at_place row.place v (types_by names n)) is

    was : (types_by names (planned old next) ≡ met others rows (types_by names next)) × Fits old next
    was = joins next (between_more others m (types_by names n) (types_by names next) row.place row.ty has made between)

-- the same, whatever the result
pub joins_next : {T E : Type 0} (r : Result T E) (names : Names) (others m : Map) (row : Row) (fact : Option Fact) (old new : List Planned) → m row.place ≡ Some row.ty → type_of fact ≡ both (Some row.ty) (others row.place) → IsSmooth fact →
    OnOk r (PlansAt names row.place fact old new) → OnOk r ((rows : List Row) → JoinsRows names others m rows old → JoinsRows names others m (rows ++ row ∷ []) new)
joins_next (Ok x) names others m row fact old new has is smooth plans = joins_more names others m row fact old new has is smooth plans
joins_next (Err x) names others m row fact old new has is smooth plans = tt

-- what becomes of a fact, by what its cell says
pub cell_left : (t : FlowType) (cell kind : Cell) (theirs own : Option FlowType) → left_of t cell ≡ both (Some t) theirs → cell ≡ kind → theirs ≡ own → left_of t kind ≡ both (Some t) own
cell_left t cell kind theirs own left is same = ap (left_of t) (sym is) ∙ left ∙ ap (both (Some t)) same

pub joint_as : (cell kind : Cell) → cell ≡ kind → IsJoint cell → IsJoint kind
joint_as cell kind is joint = subst IsJoint is joint

-- one row more
pub row_more : (names : Names) (others m : Map) (rows : List Row) (i : ℕ) (row : Row) (plan : List Planned) → i < length rows → row ≡ get_or rows i row → JoinsRows names others m (take i rows ++ row ∷ []) plan → JoinsRows names others m (take (i + 1) rows) plan
row_more names others m rows i row plan within is joins = subst (λ l. JoinsRows names others m l plan) (sym (take_more rows i row within ∙ ap (λ r. take i rows ++ r ∷ []) (sym is))) joins

pub rows_all : (names : Names) (others m : Map) (rows : List Row) (i : ℕ) (plan : List Planned) → length rows ≤ i → JoinsRows names others m (take i rows) plan → JoinsRows names others m rows plan
rows_all names others m rows i plan beyond joins = subst (λ l. JoinsRows names others m l plan) (take_all i rows beyond) joins

-- each row has its place's fact
pub true_at : (m : Map) (rows : List Row) (i : ℕ) (d : Row) → AreTrue m rows → i < length rows → m (get_or rows i d).place ≡ Some (get_or rows i d).ty
true_at m [] i d each within = absurd (omega (arith, within))
true_at m (row ∷ rows) zero d each within = each.0
true_at m (row ∷ rows) (suc i) d each within = true_at m rows i d each.1 (omega (arith, within))

pub row_true : (m : Map) (rows : List Row) (i : ℕ) (row : Row) → AreTrue m rows → i < length rows → row ≡ get_or rows i row → m row.place ≡ Some row.ty
row_true m rows i row each within is = subst (λ (r : Row). m r.place ≡ Some r.ty) (sym is) (true_at m rows i row each within)

-- ---- all of them

-- before anything is joined
pub plan_fits : (old other : Facts) (rows : List Row) (plan : List Planned) → JoinsRows old.names (shown other) (shown old) rows plan → Fits plan (map_of old.trail)
plan_fits old other rows plan joins = (joins (map_of old.trail) (λ q. inl refl)).1

-- where all are live, each place is joined
pub both_joined : {T E : Type 0} (r : Result T E) (old other : Facts) (trail : Trail) (rows : List Row) (plan : List Planned) → old.dead ≡ false → other.dead ≡ false → told rows no_facts ≡ shown old → JoinsRows old.names (shown other) (shown old) rows plan →
    OnOk r (map_of trail ≡ planned plan (map_of old.trail)) → OnOk r (◌≡◌ {A = Known} (if old.dead then None else Some (types_by old.names (map_of trail))) (joined (known old) (known other)))
both_joined (Err x) old other trail rows plan live alive tells joins made = tt
both_joined (Ok x) old other trail rows plan live alive tells joins made =
    ap (λ (b : Bool). if b then None else Some (types_by old.names (map_of trail))) live
    ∙ ap Some (ap (types_by old.names) made ∙ (joins (map_of old.trail) (λ q. inl refl)).0 ∙ met_all (shown other) (shown old) rows tells)
    ∙ (λ i. joined (sym (known_by old false live) i) (sym (known_by other false alive) i))

pub same_known : {T E : Type 0} (r : Result T E) (old : Facts) (trail : Trail) → OnErr r (map_of trail ≡ map_of old.trail) → OnErr r (◌≡◌ {A = Known} (if old.dead then None else Some (types_by old.names (map_of trail))) (known old))
same_known (Ok x) old trail same = tt
same_known (Err x) old trail same = ap (λ (m : Slots). if old.dead then None else Some (types_by old.names m)) same

-- facts that stay dead
pub stays_dead : (old new : Facts) → old.dead ≡ true → new.dead ≡ true → known new ≡ known old
stays_dead old new dead still = known_by new true still ∙ sym (known_by old true dead)

-- facts that are taken over where there were none
pub revived : (old mid set other : Facts) (rows : List Row) → old.dead ≡ true → other.dead ≡ false → shown mid ≡ no_facts → told rows no_facts ≡ shown other → shown set ≡ told rows (shown mid) → ◌≡◌ {A = Known} (Some (shown set)) (joined (known old) (known other))
revived old mid set other rows dead live none tells took = ap Some (took ∙ ap (told rows) none ∙ tells) ∙ sym (known_by other false live) ∙ ap (λ k. joined k (known other)) (sym (known_by old true dead))

-- changes that leave slots without facts so keep all marks
pub extends_marks : (old new : Facts) → new.names ≡ old.names → new.marks ≡ old.marks → Extends old.trail new.trail → KeepsMarks old new
extends_marks old new names marks extends = keeps_marks old new marks (same_names old new names) extends.longer extends.moments
