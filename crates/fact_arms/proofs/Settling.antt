-- Slots that stay where they are joined once more.
use Rattle.std.proofs.Common.{◌≡◌, ◌⊎◌, Bool, true, false, not, ◌||◌, ◌&&◌, List, [], ◌∷◌, ◌++◌, Option, Some, None, MatchOption, Result, Ok, Err, OnOk, IfOk, refl, sym, ap, ◌∙◌, subst, inl, inr, if◌then◌else◌}
use Rattle.type_values.specs.declared.types.FlowType.{FlowType}
use Rattle.std.specs.Option.{is_some}
use Rattle.std.specs.Ordering.{nat_cmp}
use Rattle.std.specs.BTreeMap.{get}
use Rattle.fact_trail.specs.declared.fact.Fact.{Fact}
use Rattle.fact_trail.specs.declared.trail.Change.{Change}
use Rattle.fact_trail.specs.declared.trail.Change.TheVariants.{At, Variables as all_variables, Properties as all_properties}
use Rattle.fact_trail.specs.declared.slot.Slot.TheVariants.{Variable, Property}
use Rattle.fact_trail.specs.declared.slot.Slot.{Slot}
use Rattle.fact_trail.specs.Slots.{Map, key_cmp, is_slot, is_property, is_rough_at}
use Rattle.fact_trail.specs.Rows.{class_facts_of}
use Rattle.fact_trail.specs.Moments.{before}
use Rattle.fact_trail.proofs.Same.{same_slot, slot_itself}
use Rattle.flow_facts.specs.Known.{both}
use Rattle.fact_arms.specs.declared.difference.Difference.{Difference}
use Rattle.fact_arms.specs.declared.fresh.Fresh.{Fresh}
use Rattle.fact_arms.specs.declared.gathered.Gathered.{Gathered}
use Rattle.fact_arms.specs.Differences.{said_else, said_of, is_said, is_among, is_gone, over, type_of, is_listed, Leaves}
use Rattle.fact_arms.specs.Joining.{joined_type}
use Rattle.fact_arms.specs.Gathering.{has_slot, is_fresh, is_at, is_of_class, Stays, Settled, stays_said, IsJoined, AreJoined}
use Rattle.fact_arms.proofs.Making.{last_listed}
use Rattle.fact_arms.proofs.Moving.{over_nothing, leaves_nothing}
use Rattle.fact_arms.proofs.Again.{both_again}
use Rattle.fact_arms.proofs.Freshening.{no_variables, no_properties}

clash : {A : Type 0} → true ≡ false → A
clash is = absurd (apart is)
  where
    apart : true ≡ false → ⊥
    apart e = cc

-- ---- one slot

-- joining with nothing
both_none : (x : Option FlowType) → both x None ≡ None
both_none None = refl
both_none (Some t) = refl

-- what has no fact stays
stays_none : (d : Difference) (m : Map) (s : Slot) → over d m s ≡ None → Stays d m s
stays_none d m s none = ap (λ o. both (type_of (m s)) (type_of o)) none ∙ both_none (type_of (m s)) ∙ sym (ap type_of none)

-- the fact as it stands is its own join, unless it is rough
smooth_join : (x : Option Fact) → is_rough_at x ≡ false → both (type_of x) (type_of x) ≡ type_of x
smooth_join None smooth = refl
smooth_join (Some f) smooth = ap Some (f.settled smooth)

-- a slot of which nothing is said
unsaid_over : (d : Difference) (m : Map) (s : Slot) → is_said d s ≡ false → over d m s ≡ (if is_gone d s then None else m s)
unsaid_over d m s unsaid = at (said_of d s) refl
  where
    at : (o : Option (Option Fact)) → said_of d s ≡ o → said_else (said_of d s) (if is_gone d s then None else m s) ≡ (if is_gone d s then None else m s)
    at None none = ap (λ o. said_else o (if is_gone d s then None else m s)) none
    at (Some fact) says = clash (sym (ap is_some says) ∙ unsaid)

stays_unsaid : (d : Difference) (m : Map) (s : Slot) → is_said d s ≡ false → is_rough_at (m s) ≡ false → Stays d m s
stays_unsaid d m s unsaid smooth = by (is_gone d s) (unsaid_over d m s unsaid)
  where
    by : (g : Bool) → over d m s ≡ (if g then None else m s) → Stays d m s
    by true is = stays_none d m s is
    by false is = ap (λ o. both (type_of (m s)) (type_of o)) is ∙ smooth_join (m s) smooth ∙ sym (ap type_of is)

-- ---- the first ones

or_parts : (a b : Bool) → (a || b) ≡ false → (a ≡ false) × (b ≡ false)
or_parts true b is = clash is
or_parts false b is = (refl, is)

not_yes : (b has : Bool) → (b ≡ true → has ≡ true) → has ≡ false → b ≡ false
not_yes true has there hasn't = sym (there refl) ∙ hasn't
not_yes false has there hasn't = refl

pub first_settled : (g : Gathered) (d : Difference) (fresh : Fresh) (slots : List Slot) (m : Map) → g.difference ≡ d → g.fresh ≡ fresh → ((s : Slot) → is_said d s ≡ true → is_listed slots s ≡ true) → ((s : Slot) → is_rough_at (m s) ≡ true → is_listed slots s ≡ true) →
    ((s : Slot) → is_listed slots s ≡ true → has_slot fresh s ≡ true) → Settled g m
first_settled g d fresh slots m here there said rough has s stale = subst (λ (e : Difference). Stays e m s) (sym here) (stays_unsaid d m s (not_yes (is_said d s) (has_slot fresh s) (λ is. has s (said s is)) old) (not_yes (is_rough_at (m s)) (has_slot fresh s) (λ is. has s (rough s is)) old))
  where
    old : has_slot fresh s ≡ false
    old = sym (ap (λ (f : Fresh). has_slot f s) there) ∙ (or_parts (has_slot g.fresh s) (is_among g.fresh.classes s && is_said g.difference s) stale).0

-- ---- a change that is put before

abbrev touched : Change → Slot → Bool
touched change s = is_at change s || is_of_class change s

-- a slot that it does not touch
untouched : (change : Change) (m : Map) (s : Slot) → touched change s ≡ false → before change m s ≡ m s
untouched (At slot fact) m s is = ap (λ t. if t then fact else m s) (or_parts (is_slot slot s) false is).0
untouched (all_variables c) m (Variable b) is = ap (λ t. if t then class_facts_of c b else m (Variable b)) is
untouched (all_variables c) m (Property k) is = refl
untouched (all_properties p) m (Variable b) is = refl
untouched (all_properties p) m (Property k) is = clash is

-- and one that it does
touched_alike : (change : Change) (m n : Map) (s : Slot) → touched change s ≡ true → before change m s ≡ before change n s
touched_alike (At slot fact) m n s is = by (is_slot slot s) is
  where
    by : (t : Bool) → (t || false) ≡ true → (if t then fact else m s) ≡ (if t then fact else n s)
    by true is = refl
    by false is = clash (sym is)
touched_alike (all_variables c) m n (Variable b) is = ap (λ t. if t then class_facts_of c b else m (Variable b)) is ∙ sym (ap (λ t. if t then class_facts_of c b else n (Variable b)) is)
touched_alike (all_variables c) m n (Property k) is = clash (sym is)
touched_alike (all_properties p) m n (Variable b) is = clash (sym is)
touched_alike (all_properties p) m n (Property k) is = refl

-- what a difference makes of a slot depends on its fact alone
over_alike : (d : Difference) (m n : Map) (s : Slot) → m s ≡ n s → over d m s ≡ over d n s
over_alike d m n s same = ap (λ (x : Option Fact). said_else (said_of d s) (if is_gone d s then None else x)) same

-- and not even on it where something is said of it
said_alike : (d : Difference) (m n : Map) (s : Slot) → is_said d s ≡ true → over d m s ≡ over d n s
said_alike d m n s says = by (said_of d s) says
  where
    by : (o : Option (Option Fact)) → is_some o ≡ true → said_else o (if is_gone d s then None else m s) ≡ said_else o (if is_gone d s then None else n s)
    by (Some fact) is = refl
    by None is = clash (sym is)

-- where nothing is said of a slot, and it has the same whatever it had, it has nothing
unsaid_none : (d : Difference) (m : Map) (s : Slot) → is_said d s ≡ false → over d m s ≡ over d (λ q. None) s → over d m s ≡ None
unsaid_none d m s unsaid same = same ∙ unsaid_over d (λ q. None) s unsaid ∙ nothing (is_gone d s)
  where
    nothing : (b : Bool) → ◌≡◌ {A = Option Fact} (if b then None else None) None
    nothing true = refl
    nothing false = refl

second_false : (a b : Bool) → (a && b) ≡ false → a ≡ true → b ≡ false
second_false true b is holds = is
second_false false b is holds = clash (sym holds)

both_true : (a b : Bool) → (a && b) ≡ true → (a ≡ true) × (b ≡ true)
both_true true b is = (refl, is)
both_true false b is = clash (sym is)

or_false_left : (a b : Bool) → a ≡ false → (a || b) ≡ b
or_false_left true b is = clash is
or_false_left false b is = refl

settled_before : (f f' : Fresh) (d d' : Difference) (change : Change) → ((s : Slot) → has_slot f' s ≡ (is_at change s || has_slot f s)) → ((s : Slot) → is_among f'.classes s ≡ (is_of_class change s || is_among f.classes s)) →
    ((n : Map) → over d' n ≡ over d (before change n)) → (m : Map) → ((s : Slot) → is_fresh f d s ≡ false → Stays d (before change m) s) → (s : Slot) → is_fresh f' d' s ≡ false → Stays d' m s
settled_before f f' d d' change slots classes made m old s stale = by (is_of_class change s) refl
  where
    now : (has_slot f' s ≡ false) × ((is_among f'.classes s && is_said d' s) ≡ false)
    now = or_parts (has_slot f' s) (is_among f'.classes s && is_said d' s) stale

    apart : (is_at change s ≡ false) × (has_slot f s ≡ false)
    apart = or_parts (is_at change s) (has_slot f s) (sym (slots s) ∙ now.0)

    empty : Map
    empty q = None

    -- where it is the same whatever it had, and of a class that changed, nothing is left
    none : is_among f'.classes s ≡ true → over d (before change m) s ≡ over d (before change empty) s → Stays d' m s
    none among same = stays_none d' m s (unsaid_none d' m s (second_false (is_among f'.classes s) (is_said d' s) now.1 among) (ap (λ (n : Map). n s) (made m) ∙ same ∙ sym (ap (λ (n : Map). n s) (made empty))))

    -- it was no fresh one
    kept : touched change s ≡ false → (b : Bool) → is_fresh f d s ≡ b → Stays d' m s
    kept un false was =
        (λ i. both (type_of (sym (untouched change m s un) i)) (type_of (made m i s))) ∙ old s was ∙ sym (ap (λ (n : Map). type_of (n s)) (made m))
    kept un true was =
        let class = both_true (is_among f.classes s) (is_said d s) (sym (or_false_left (has_slot f s) (is_among f.classes s && is_said d s) apart.1) ∙ was) in
        none (classes s ∙ or_true (is_of_class change s) (is_among f.classes s) class.0) (said_alike d (before change m) (before change empty) s class.1)
      where
        or_true : (a b : Bool) → b ≡ true → (a || b) ≡ true
        or_true true b is = refl
        or_true false b is = is

    by : (b : Bool) → is_of_class change s ≡ b → Stays d' m s
    by true of = none (classes s ∙ ap (λ b. b || is_among f.classes s) of) (over_alike d (before change m) (before change empty) s (touched_alike change m empty s (λ i. apart.0 i || of i)))
    by false of = kept (λ i. apart.0 i || of i) (is_fresh f d s) refl

-- the same, whatever the result
pub settled_change : {T E : Type 0} (r : Result T E) (g : Gathered) (f' : Fresh) (d' : Difference) (new : Gathered) (change : Change) → new.fresh ≡ f' → new.difference ≡ d' → ((s : Slot) → has_slot f' s ≡ (is_at change s || has_slot g.fresh s)) →
    ((s : Slot) → is_among f'.classes s ≡ (is_of_class change s || is_among g.fresh.classes s)) → OnOk r ((n : Map) → over d' n ≡ over g.difference (before change n)) → OnOk r ((m : Map) → Settled g (before change m) → Settled new m)
settled_change (Err x) g f' d' new change here there slots classes made = tt
settled_change (Ok x) g f' d' new change here there slots classes made = λ m old s stale.
    subst (λ (e : Difference). Stays e m s) (sym there) (settled_before g.fresh f' g.difference d' change slots classes made m old s (sym (λ i. is_fresh (here i) (there i) s) ∙ stale))

-- ---- joining slots

-- The joined type of a slot that has it is the same.
joined_again : (arm old new : Difference) (m : Map) (s : Slot) → type_of (over new m s) ≡ joined_type arm old m s → joined_type arm new m s ≡ joined_type arm old m s
joined_again arm old new m s is = ap (both (type_of (over arm m s))) is ∙ both_again (type_of (over arm m s)) (type_of (over old m s))

-- what is said stays
same_over : (old new : Difference) (m : Map) (s : Slot) → new.gone ≡ old.gone → said_of new s ≡ said_of old s → over new m s ≡ over old m s
same_over old new m s gone says = λ i. said_else (says i) (if is_among (gone i) s then None else m s)

-- some slots were joined, and others are left
pub record Joins (arm old : Difference) (m : Map) (all left : List Slot) (new : Difference) : Type 0 where
  pub gone : new.gone ≡ old.gone
  pub each : (s : Slot) → (said_of new s ≡ said_of old s) ⊎ IsJoined arm old m new s
  pub listed : (s : Slot) → is_listed all s ≡ true → is_listed left s ≡ false → IsJoined arm old m new s

pub joins_none : (arm old : Difference) (m : Map) (all : List Slot) → Joins arm old m all all old
joins_none arm old m all = record { gone = refl; each = λ s. inl refl; listed = λ s is unlisted. clash (sym is ∙ unlisted) }

pub joins_more : (arm old : Difference) (m : Map) (all left less : List Slot) (slot : Slot) (mid new : Difference) → Joins arm old m all left mid → left ≡ less ++ slot ∷ [] → type_of (over new m slot) ≡ joined_type arm mid m slot → (is_said new slot || is_gone new slot) ≡ true →
    ((s : Slot) → is_slot slot s ≡ false → said_of new s ≡ said_of mid s) → new.gone ≡ mid.gone → Joins arm old m all less new
joins_more arm old m all left less slot mid new before are joins settles others gone = record {
  gone = gone ∙ before.gone;
  each = λ s. at s (is_slot slot s) refl;
  listed = λ s is unlisted. listed s is unlisted (is_slot slot s) refl;
}
  where
    -- the slot itself
    here : IsJoined arm old m new slot
    here = (joins ∙ was (before.each slot), settles)
      where
        was : ((said_of mid slot ≡ said_of old slot) ⊎ IsJoined arm old m mid slot) → joined_type arm mid m slot ≡ joined_type arm old m slot
        was (inl same) = ap (λ o. both (type_of (over arm m slot)) (type_of o)) (same_over old mid m slot before.gone same)
        was (inr done) = joined_again arm old mid m slot done.0

    -- another one that has its joined type
    still : (s : Slot) → is_slot slot s ≡ false → IsJoined arm old m mid s → IsJoined arm old m new s
    still s other done = (
      ap type_of (same_over mid new m s gone (others s other)) ∙ done.0,
      (λ i. is_some (others s other i) || is_among (gone i) s) ∙ done.1,
    )

    at : (s : Slot) (t : Bool) → is_slot slot s ≡ t → (said_of new s ≡ said_of old s) ⊎ IsJoined arm old m new s
    at s true same = inr (subst (λ (q : Slot). IsJoined arm old m new q) (same_slot slot s same) here)
    at s false other = on (before.each s)
      where
        on : ((said_of mid s ≡ said_of old s) ⊎ IsJoined arm old m mid s) → (said_of new s ≡ said_of old s) ⊎ IsJoined arm old m new s
        on (inl kept) = inl (others s other ∙ kept)
        on (inr done) = inr (still s other done)

    listed : (s : Slot) → is_listed all s ≡ true → is_listed less s ≡ false → (t : Bool) → is_slot slot s ≡ t → IsJoined arm old m new s
    listed s is unlisted true same = subst (λ (q : Slot). IsJoined arm old m new q) (same_slot slot s same) here
    listed s is unlisted false other =
        still s other (before.listed s is (last_listed left less slot s are ∙ (λ i. unlisted i || (other i || false))))

pub joins_all : (arm old : Difference) (m : Map) (all left : List Slot) (new : Difference) → Joins arm old m all left new → ((s : Slot) → is_listed left s ≡ false) → AreJoined arm old m all new
joins_all arm old m all left new before none = record { gone = before.gone; each = before.each; listed = λ s is. before.listed s is (none s) }

-- ---- all slots

not_no : (b : Bool) → not b ≡ true → b ≡ false
not_no true is = clash (sym is)
not_no false is = refl

-- what the arm makes of a slot that it leaves is the fact as it stands
arm_leaves : (arm : Difference) (m : Map) (s : Slot) → is_said arm s ≡ false → is_gone arm s ≡ false → over arm m s ≡ m s
arm_leaves arm m s unsaid kept = unsaid_over arm m s unsaid ∙ ap (λ t. if t then None else m s) kept

arm_drops : (arm : Difference) (m : Map) (s : Slot) → is_said arm s ≡ false → is_gone arm s ≡ true → over arm m s ≡ None
arm_drops arm m s unsaid gone = unsaid_over arm m s unsaid ∙ ap (λ t. if t then None else m s) gone

pub met_joined : (g : Gathered) (arm mid new : Difference) (m : Map) (slots : List Slot) → Settled g m → ((s : Slot) → is_said arm s ≡ true → is_listed slots s ≡ true) → ((s : Slot) → is_fresh g.fresh g.difference s ≡ true → is_listed slots s ≡ true) →
    AreJoined arm g.difference m slots mid → ((s : Slot) → said_of new s ≡ (if stays_said arm s then said_of mid s else None)) → ((s : Slot) → is_gone new s ≡ (is_gone arm s || is_gone mid s)) →
    (s : Slot) → type_of (over new m s) ≡ joined_type arm g.difference m s
met_joined g arm mid new m slots settled saids freshes joins says gone s = by (is_said arm s) refl (is_gone arm s) refl
  where
    old : Difference
    old = g.difference

    new_as : (b c : Bool) → stays_said arm s ≡ b → is_gone arm s ≡ c → over new m s ≡ said_else (if b then said_of mid s else None) (if (c || is_gone mid s) then None else m s)
    new_as b c stays g' = λ i. said_else ((says s ∙ ap (λ t. if t then said_of mid s else None) stays) i) (if (gone s ∙ ap (λ t. t || is_gone mid s) g') i then None else m s)

    -- where it makes no difference what it had, a class that goes makes none
    same_gone : (o : Option (Option Fact)) (a b : Bool) → (is_some o || b) ≡ true → said_else o (if (a || b) then None else m s) ≡ said_else o (if b then None else m s)
    same_gone (Some fact) a b is = refl
    same_gone None true true is = refl
    same_gone None false b is = refl
    same_gone None true false is = clash (sym is)

    by : (b : Bool) → is_said arm s ≡ b → (c : Bool) → is_gone arm s ≡ c → type_of (over new m s) ≡ joined_type arm old m s
    by true said c g' =
        let done = joins.listed s (saids s said) in
        ap type_of (new_as true c (λ i. said i || not (is_gone arm s)) g' ∙ same_gone (said_of mid s) c (is_gone mid s) done.1) ∙ done.0
    by false unsaid true g' =
        ap type_of (new_as false true (λ i. unsaid i || not (g' i)) g') ∙ ap (λ o. both (type_of o) (type_of (over old m s))) (sym (arm_drops arm m s unsaid g'))
    by false unsaid false g' = ap type_of (new_as true false (λ i. unsaid i || not (g' i)) g') ∙ mid_has (is_fresh g.fresh old s) refl (joins.each s)
      where
        kept : is_fresh g.fresh old s ≡ false → said_of mid s ≡ said_of old s → type_of (over mid m s) ≡ joined_type arm old m s
        kept stale same =
            ap type_of (same_over old mid m s joins.gone same) ∙ sym (settled s stale) ∙ ap (λ o. both (type_of o) (type_of (over old m s))) (sym (arm_leaves arm m s unsaid g'))

        mid_has : (b : Bool) → is_fresh g.fresh old s ≡ b → ((said_of mid s ≡ said_of old s) ⊎ IsJoined arm old m mid s) → type_of (over mid m s) ≡ joined_type arm old m s
        mid_has true fresh each = (joins.listed s (freshes s fresh)).0
        mid_has false stale (inl same) = kept stale same
        mid_has false stale (inr done) = done.0

-- a slot that the arm does not say has its joined type again where it is joined with the fact as it stands
pub met_settled : (new : Gathered) (fresh : Fresh) (arm old : Difference) (m : Map) (said : List Slot) → new.fresh ≡ fresh → ((s : Slot) → is_said arm s ≡ true → is_listed said s ≡ true) → ((s : Slot) → is_listed said s ≡ true → has_slot fresh s ≡ true) →
    ((s : Slot) → type_of (over new.difference m s) ≡ joined_type arm old m s) → Settled new m
met_settled new fresh arm old m said here saids has joins s stale = by (is_gone arm s) refl
  where
    unsaid : is_said arm s ≡ false
    unsaid = not_yes (is_said arm s) (has_slot fresh s) (λ is. has s (saids s is)) (sym (ap (λ (f : Fresh). has_slot f s) here) ∙ (or_parts (has_slot new.fresh s) (is_among new.fresh.classes s && is_said new.difference s) stale).0)

    by : (b : Bool) → is_gone arm s ≡ b → Stays new.difference m s
    by true gone =
        let none : type_of (over new.difference m s) ≡ None = joins s ∙ ap (λ o. both (type_of o) (type_of (over old m s))) (arm_drops arm m s unsaid gone) in
        ap (both (type_of (m s))) none ∙ both_none (type_of (m s)) ∙ sym none
    by false kept =
        let is : type_of (over new.difference m s) ≡ both (type_of (m s)) (type_of (over old m s)) = joins s ∙ ap (λ o. both (type_of o) (type_of (over old m s))) (arm_leaves arm m s unsaid kept) in
        ap (both (type_of (m s))) is ∙ both_again (type_of (m s)) (type_of (over old m s)) ∙ sym is

-- ---- what is said of one slot

pub says_here : {T E : Type 0} (r : Result T E) (old new : Difference) (slot : Slot) (fact given : Option Fact) → given ≡ fact → OnOk r ((s : Slot) → said_of new s ≡ (if is_slot slot s then Some fact else said_of old s)) → OnOk r ((m : Map) → over new m slot ≡ given)
says_here (Err x) old new slot fact given is says = tt
says_here (Ok x) old new slot fact given is says = λ m. ap (λ o. said_else o (if is_gone new slot then None else m slot)) (says slot ∙ ap (λ t. if t then Some fact else said_of old slot) (slot_itself slot)) ∙ sym is

pub says_settles : {T E : Type 0} (r : Result T E) (old new : Difference) (slot : Slot) (fact : Option Fact) → OnOk r ((s : Slot) → said_of new s ≡ (if is_slot slot s then Some fact else said_of old s)) → OnOk r ((is_said new slot || is_gone new slot) ≡ true)
says_settles (Err x) old new slot fact says = tt
says_settles (Ok x) old new slot fact says = ap (λ o. is_some o || is_gone new slot) (says slot ∙ ap (λ t. if t then Some fact else said_of old slot) (slot_itself slot))

pub says_others : {T E : Type 0} (r : Result T E) (old new : Difference) (slot : Slot) (fact : Option Fact) → OnOk r ((s : Slot) → said_of new s ≡ (if is_slot slot s then Some fact else said_of old s)) → OnOk r ((s : Slot) → is_slot slot s ≡ false → said_of new s ≡ said_of old s)
says_others (Err x) old new slot fact says = tt
says_others (Ok x) old new slot fact says = λ s other. says s ∙ ap (λ t. if t then Some fact else said_of old s) other

pub gone_here : (d : Difference) (slot : Slot) (b : Bool) → said_of d slot ≡ None → b ≡ is_gone d slot → b ≡ true → (m : Map) → over d m slot ≡ None
gone_here d slot b none tells holds m = λ i. said_else (none i) (if (sym tells ∙ holds) i then None else m slot)

pub gone_settles : (d : Difference) (slot : Slot) (b : Bool) → b ≡ is_gone d slot → b ≡ true → (is_said d slot || is_gone d slot) ≡ true
gone_settles d slot b tells holds = by (is_said d slot)
  where
    by : (a : Bool) → (a || is_gone d slot) ≡ true
    by true = refl
    by false = sym tells ∙ holds

-- a slot that was taken out
pub taken_out : (old less : Difference) (slot : Slot) → ((s : Slot) → said_of less s ≡ (if is_slot slot s then None else said_of old s)) → said_of less slot ≡ None
taken_out old less slot takes = takes slot ∙ ap (λ t. if t then None else said_of old slot) (slot_itself slot)

pub joined_here : {T E : Type 0} (r : Result T E) (new : Difference) (m : Map) (slot : Slot) (fact : Option Fact) (ty : Option FlowType) → type_of fact ≡ ty → OnOk r ((n : Map) → over new n slot ≡ fact) → OnOk r (type_of (over new m slot) ≡ ty)
joined_here (Err x) new m slot fact ty is says = tt
joined_here (Ok x) new m slot fact ty is says = ap type_of (says m) ∙ is

pub others_left : {T E : Type 0} (r : Result T E) (old less new : Difference) (slot : Slot) → ((s : Slot) → said_of less s ≡ (if is_slot slot s then None else said_of old s)) → OnOk r ((s : Slot) → is_slot slot s ≡ false → said_of new s ≡ said_of less s) →
    OnOk r ((s : Slot) → is_slot slot s ≡ false → said_of new s ≡ said_of old s)
others_left (Err x) old less new slot takes says = tt
others_left (Ok x) old less new slot takes says = λ s other. says s other ∙ takes s ∙ ap (λ t. if t then None else said_of old s) other

-- ---- a class that goes

-- what is said of a slot, by the first one or else by another one
abbrev said_by : Bool → Option (Option Fact) → Option (Option Fact) → Option (Option Fact)
said_by stays first other = if is_some first && stays then first else other

pub again_past : (arm : Difference) (rest less d : Difference) (slot : Slot) (b : Bool) → b ≡ stays_said arm slot → b ≡ false → ((s : Slot) → said_of less s ≡ (if is_slot slot s then None else said_of rest s)) →
    (s : Slot) → (if is_said less s && stays_said arm s then said_of less s else said_of d s) ≡ (if is_said rest s && stays_said arm s then said_of rest s else said_of d s)
again_past arm rest less d slot b tells fails takes s = by (is_slot slot s) refl
  where
    none : (o p q : Option (Option Fact)) (t : Bool) → t ≡ false → (if is_some o && t then o else q) ≡ (if is_some p && t then p else q)
    none o p q true is = clash is
    none (Some o) (Some p) q false is = refl
    none (Some o) None q false is = refl
    none None (Some p) q false is = refl
    none None None q false is = refl

    by : (t : Bool) → is_slot slot s ≡ t → (if is_said less s && stays_said arm s then said_of less s else said_of d s) ≡ (if is_said rest s && stays_said arm s then said_of rest s else said_of d s)
    by true same = none (said_of less s) (said_of rest s) (said_of d s) (stays_said arm s) (ap (stays_said arm) (sym (same_slot slot s same)) ∙ sym tells ∙ fails)
    by false other = ap (λ o. if is_some o && stays_said arm s then o else said_of d s) (takes s ∙ ap (λ t. if t then None else said_of rest s) other)

pub again_more : (arm : Difference) (rest less old new : Difference) (slot : Slot) (fact : Option Fact) (b : Bool) → b ≡ stays_said arm slot → b ≡ true → said_of rest slot ≡ Some fact → ((s : Slot) → said_of less s ≡ (if is_slot slot s then None else said_of rest s)) →
    ((s : Slot) → said_of new s ≡ (if is_slot slot s then Some fact else said_of old s)) → (s : Slot) → (if is_said less s && stays_said arm s then said_of less s else said_of new s) ≡ (if is_said rest s && stays_said arm s then said_of rest s else said_of old s)
again_more arm rest less old new slot fact b tells holds was takes says s = by (is_slot slot s) refl
  where
    by : (t : Bool) → is_slot slot s ≡ t → (if is_said less s && stays_said arm s then said_of less s else said_of new s) ≡ (if is_said rest s && stays_said arm s then said_of rest s else said_of old s)
    by true same =
        let here : said_of rest s ≡ Some fact = ap (said_of rest) (sym (same_slot slot s same)) ∙ was in
        let stays : stays_said arm s ≡ true = ap (stays_said arm) (sym (same_slot slot s same)) ∙ sym tells ∙ holds in
        let gone : said_of less s ≡ None = takes s ∙ ap (λ t. if t then None else said_of rest s) same in
        let says_it : said_of new s ≡ Some fact = says s ∙ ap (λ t. if t then Some fact else said_of old s) same in
        ap (λ o. if is_some o && stays_said arm s then o else said_of new s) gone ∙ says_it ∙ sym (λ i. if is_some (here i) && stays i then here i else said_of old s)
    by false other =
        λ i. if is_some ((takes s ∙ ap (λ t. if t then None else said_of rest s) other) i) && stays_said arm s then (takes s ∙ ap (λ t. if t then None else said_of rest s) other) i else (says s ∙ ap (λ t. if t then Some fact else said_of old s) other) i

pub again_all : (arm : Difference) (rest d : Difference) → ((s : Slot) → said_of rest s ≡ None) → (s : Slot) → said_of d s ≡ (if is_said rest s && stays_said arm s then said_of rest s else said_of d s)
again_all arm rest d none s = sym (ap (λ o. if is_some o && stays_said arm s then o else said_of d s) (none s))

-- nothing of the class goes
stays_all : (arm : Difference) (of : Slot → Bool) (d : Difference) → ((s : Slot) → of s ≡ true → is_gone arm s ≡ false) → (s : Slot) → said_of d s ≡ (if of s && not (stays_said arm s) then None else said_of d s)
stays_all arm of d kept s = by (of s) refl
  where
    or_true : (a : Bool) → (a || true) ≡ true
    or_true true = refl
    or_true false = refl

    by : (t : Bool) → of s ≡ t → said_of d s ≡ (if of s && not (stays_said arm s) then None else said_of d s)
    by true is = sym (λ i. if is i && not ((ap (λ g. is_said arm s || not g) (kept s is) ∙ or_true (is_said arm s)) i) then None else said_of d s)
    by false is = sym (ap (λ t. if t && not (stays_said arm s) then None else said_of d s) is)

pub properties_stay : (arm d : Difference) → arm.gone.properties ≡ false → (s : Slot) → said_of d s ≡ (if is_property s && not (stays_said arm s) then None else said_of d s)
properties_stay arm d none = stays_all arm is_property d (no_properties arm.gone none)

pub variables_stay : (arm d : Difference) (b : Bool) → b ≡ (arm.gone.constants || arm.gone.changing) → b ≡ false → (s : Slot) → said_of d s ≡ (if not (is_property s) && not (stays_said arm s) then None else said_of d s)
variables_stay arm d b tells fails = stays_all arm (λ s. not (is_property s)) d (λ s is. no_variables arm.gone b tells fails s (not_no (is_property s) is))

-- what is said again of slots that were said
said_again : (o : Option (Option Fact)) (t : Bool) → (if is_some o && t then o else None) ≡ (if not t then None else o)
said_again (Some fact) true = refl
said_again (Some fact) false = refl
said_again None true = refl
said_again None false = refl

pub properties_again : {T E : Type 0} (r : Result T E) (arm old empty rest less new : Difference) → ((s : Slot) → said_of empty s ≡ None) → rest.variables ≡ empty.variables → rest.properties ≡ old.properties → less.variables ≡ old.variables → less.properties ≡ empty.properties →
    OnOk r ((s : Slot) → said_of new s ≡ (if is_said rest s && stays_said arm s then said_of rest s else said_of less s)) → OnOk r ((s : Slot) → said_of new s ≡ (if is_property s && not (stays_said arm s) then None else said_of old s))
properties_again (Err x) arm old empty rest less new none rv rp lv lp says = tt
properties_again (Ok x) arm old empty rest less new none rv rp lv lp says = at
  where
    at : (s : Slot) → said_of new s ≡ (if is_property s && not (stays_said arm s) then None else said_of old s)
    at (Variable b) = says (Variable b) ∙ (λ i. said_by (stays_said arm (Variable b)) ((ap (λ v. get nat_cmp v b) rv ∙ none (Variable b)) i) (get nat_cmp (lv i) b))
    at (Property k) = says (Property k) ∙ (λ i. said_by (stays_said arm (Property k)) (get key_cmp (rp i) k) ((ap (λ p. get key_cmp p k) lp ∙ none (Property k)) i)) ∙ said_again (said_of old (Property k)) (stays_said arm (Property k))

pub variables_again : {T E : Type 0} (r : Result T E) (arm old empty rest less new : Difference) → ((s : Slot) → said_of empty s ≡ None) → rest.properties ≡ empty.properties → rest.variables ≡ old.variables → less.properties ≡ old.properties → less.variables ≡ empty.variables →
    OnOk r ((s : Slot) → said_of new s ≡ (if is_said rest s && stays_said arm s then said_of rest s else said_of less s)) → OnOk r ((s : Slot) → said_of new s ≡ (if not (is_property s) && not (stays_said arm s) then None else said_of old s))
variables_again (Err x) arm old empty rest less new none rp rv lp lv says = tt
variables_again (Ok x) arm old empty rest less new none rp rv lp lv says = at
  where
    at : (s : Slot) → said_of new s ≡ (if not (is_property s) && not (stays_said arm s) then None else said_of old s)
    at (Variable b) = says (Variable b) ∙ (λ i. said_by (stays_said arm (Variable b)) (get nat_cmp (rv i) b) ((ap (λ v. get nat_cmp v b) lv ∙ none (Variable b)) i)) ∙ said_again (said_of old (Variable b)) (stays_said arm (Variable b))
    at (Property k) = says (Property k) ∙ (λ i. said_by (stays_said arm (Property k)) ((ap (λ p. get key_cmp p k) rp ∙ none (Property k)) i) (get key_cmp (lp i) k))

-- both classes
pub dropped_both : (arm old mid new : Difference) → ((s : Slot) → said_of mid s ≡ (if not (is_property s) && not (stays_said arm s) then None else said_of old s)) → ((s : Slot) → said_of new s ≡ (if is_property s && not (stays_said arm s) then None else said_of mid s)) →
    (s : Slot) → said_of new s ≡ (if stays_said arm s then said_of old s else None)
dropped_both arm old mid new first second s = second s ∙ ap (λ o. if is_property s && not (stays_said arm s) then None else o) (first s) ∙ by (is_property s) (stays_said arm s)
  where
    by : (p t : Bool) → (if p && not t then None else (if not p && not t then None else said_of old s)) ≡ (if t then said_of old s else None)
    by true true = refl
    by true false = refl
    by false true = refl
    by false false = refl

-- ---- the last change

pub after_some : (m n : Map) (o : Option Change) (change : Change) (A : Type 0) → o ≡ Some change → MatchOption o A (λ e. m ≡ before e n) → m ≡ before change n
after_some m n o change A is after = subst (λ (p : Option Change). MatchOption p A (λ e. m ≡ before e n)) is after

pub taken_settled : {T E : Type 0} (r : Result T E) (g new : Gathered) (m n : Map) (change : Change) → m ≡ before change n → Settled g m → OnOk r ((k : Map) → Settled g (before change k) → Settled new k) → OnOk r (Settled new n)
taken_settled (Err x) g new m n change after old settled = tt
taken_settled (Ok x) g new m n change after old settled = settled n (subst (λ (l : Map). Settled g l) after old)

-- ---- nothing

pub nothing_made : {E : Type 0} (r : Result Gathered E) (d : Difference) → ((s : Slot) → said_of d s ≡ None) → ((s : Slot) → is_gone d s ≡ false) → IfOk r (λ g. g.difference ≡ d) → IfOk r (λ g. (m : Map) → over g.difference m ≡ m)
nothing_made (Ok g) d nothing stood is = λ m. ap (λ e. over e m) is ∙ over_nothing d nothing stood m
nothing_made (Err x) d nothing stood is = tt

pub nothing_left : {E : Type 0} (r : Result Gathered E) (d : Difference) → ((s : Slot) → said_of d s ≡ None) → IfOk r (λ g. g.difference ≡ d) → IfOk r (λ g. (s : Slot) → Leaves s g.difference)
nothing_left (Ok g) d nothing is = λ s. ap (λ e. said_else (said_of e s) None) is ∙ leaves_nothing d s nothing
nothing_left (Err x) d nothing is = tt
