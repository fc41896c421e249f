-- Going back to a mark, on from it, and joining what arms made of the facts at it.
use Rattle.std.proofs.Common.{◌≡◌, ◌≤◌, ◌<◌, ◌+◌, ℕ, Bool, true, false, Option, Some, None, Result, Ok, Err, OnOk, length, refl, sym, ap, ◌∙◌, subst, if◌then◌else◌, arith}
use Rattle.fact_trail.specs.declared.fact.Fact.{Fact}
use Rattle.fact_trail.specs.declared.trail.Trail.{Trail}
use Rattle.fact_trail.specs.declared.slot.Slot.{Slot}
use Rattle.fact_trail.specs.Slots.{Map as Slots}
use Rattle.fact_trail.specs.Moments.{map_of, map_at, IsNew}
use Rattle.fact_trail.proofs.Changes.{map_at_end, none_now}
use Rattle.fact_arms.specs.declared.difference.Difference.{Difference}
use Rattle.fact_arms.specs.Differences.{over, type_of, SameTypes, Leaves, GoesBack, KeepsUpTo, Goes}
use Rattle.fact_arms.specs.Joining.{joined_type}
use Rattle.fact_arms.proofs.Moving.{over_none}
use Rattle.flow_facts.specs.Known.{Map, Known, both, joined}
use Rattle.refine_flow.specs.declared.names.Names.{Names}
use Rattle.refine_flow.specs.declared.facts.Facts.{Facts}
use Rattle.refine_flow.specs.declared.facts.Mark.{Mark}
use Rattle.refine_flow.specs.declared.facts.Arm.{Arm}
use Rattle.refine_flow.specs.Numbers.{IsBeyond}
use Rattle.refine_flow.specs.Standing.{slot_of, type_in, types_by, shown, known, known_at, known_over, IsOf, IsUpTo, IsAt, IsArmOf, KeepsMark, KeepsMarks, KeepsMarksUpTo, IsLast, OpensMark, EntersMark, SpendsMark}
use Rattle.refine_flow.proofs.MarkLemmas.{keeps_mark_twice, keeps_marks, grows_twice}
use Rattle.refine_flow.proofs.Dropping.{same_names}

-- the same names, and the same moment: so the same facts at a mark, and arms make the same of them
pub same_mark : (old new : Facts) (m : Mark) → new.names ≡ old.names → m.depth < new.marks → m.length ≤ length new.trail.changes.items → map_at m.length new.trail ≡ map_at m.length old.trail → KeepsMark m old new
same_mark old new m names depth within same = (
  (depth, within),
  ap (λ (x : Map). if m.dead then None else Some x) (λ i. types_by (names i) (same i)),
  λ arm of. (
    subst (λ ns. (s : Slot) → IsBeyond ns s → Leaves s arm.difference) (sym names) of,
    ap (λ (x : Map). if arm.dead then None else Some x) (λ i. types_by (names i) (over arm.difference (same i))),
  ),
)

-- the moments up to the mark are as they were: so are the facts at the marks up to it
pub kept_up_to : (old new : Facts) (mark : Mark) → new.names ≡ old.names → new.marks ≡ old.marks → mark.length ≤ length new.trail.changes.items → GoesBack old.trail new.trail → KeepsMarksUpTo mark old new
kept_up_to old new mark names marks within goes = record {
  count = marks;
  names = same_names old new names;
  each = λ m is up. let least : m.length ≤ mark.length = up.1 in
      same_mark old new m names (omega (arith, is.0, marks)) (omega (arith, least, within)) (goes.moments m.length (omega (arith, least, within)));
}

-- the same, where the moments up to the mark are kept
pub kept_by : (old new : Facts) (mark : Mark) → new.names ≡ old.names → new.marks ≡ old.marks → KeepsUpTo mark.length old.trail new.trail → KeepsMarksUpTo mark old new
kept_by old new mark names marks keeps = record {
  count = marks;
  names = same_names old new names;
  each = λ m is up. let least : m.length ≤ mark.length = up.1 in
      let within = keeps.within in same_mark old new m names (omega (arith, is.0, marks)) (omega (arith, least, within)) (keeps.moments m.length least);
}

-- marks that all stay
pub kept_up_to_all : (mark : Mark) (old new : Facts) → KeepsMarks old new → KeepsMarksUpTo mark old new
kept_up_to_all mark old new keeps = record { count = keeps.count; names = keeps.names; each = λ m is up. keeps.each m is }

-- and after those up to the mark did
pub kept_up_to_then : (mark : Mark) (a b c : Facts) → KeepsMarksUpTo mark a b → KeepsMarks b c → KeepsMarksUpTo mark a c
kept_up_to_then mark a b c first second = record {
  count = second.count ∙ first.count;
  names = grows_twice a.names b.names c.names first.names second.names;
  each = λ m is up. let once = first.each m is up in keeps_mark_twice a b c m once (second.each m once.0);
}

-- the mark itself is up to it
pub last_of : (mark : Mark) (f : Facts) → IsLast mark f → IsOf mark f × IsUpTo mark mark
last_of mark f last = let depth = last.0 in ((omega (arith, depth), last.1), (omega arith, omega arith))

-- the facts at a mark that was just made
pub known_now : (mark : Mark) (f : Facts) → mark.length ≡ length f.trail.changes.items → mark.dead ≡ f.dead → known_at mark f ≡ known f
known_now mark f here dead = λ i. if dead i then None else Some (types_by f.names (map_at_end f.trail.changes.items mark.length (map_of f.trail) (omega (arith, here)) i))

-- one that is made
pub opened : (mark : Mark) (old new : Facts) → new.names ≡ old.names → new.trail ≡ old.trail → new.marks ≡ mark.depth + 1 → mark.depth ≡ old.marks → mark.length ≡ length new.trail.changes.items → mark.dead ≡ new.dead → OpensMark mark old new
opened mark old new names trail count depth here dead = record {
  last = (sym count, omega (arith, here));
  depth = depth;
  names = same_names old new names;
  now = known_now mark new here dead;
  each = λ m is. let below = is.0 in let within = is.1 in let same = ap (λ (t : Trail). length t.changes.items) trail in (
    (omega (arith, below, depth), omega (arith, within, here, same)),
    same_mark old new m names (omega (arith, below, depth, count)) (omega (arith, within, same)) (ap (map_at m.length) trail),
  );
}

-- one that is spent, and then what is not needed is forgotten
pub spent : (mark : Mark) (old mid new : Facts) → mid.names ≡ old.names → mid.trail ≡ old.trail → mid.marks ≡ mark.depth → KeepsMarks mid new → SpendsMark mark old new
spent mark old mid new names trail count kept = record {
  count = kept.count ∙ count;
  names = grows_twice old.names mid.names new.names (same_names old mid names) kept.names;
  each = λ m was up earlier. let within = was.1 in let same = ap (λ (t : Trail). length t.changes.items) trail in
      let once : KeepsMark m old mid = same_mark old mid m names (omega (arith, earlier, count)) (omega (arith, within, same)) (ap (map_at m.length) trail) in keeps_mark_twice old mid new m once (kept.each m once.0);
}

-- slots that have the same types make places that have
pub types_same : (names : Names) (m n : Slots) → SameTypes m n → types_by names m ≡ types_by names n
types_same names m n same = λ i q. at (slot_of names q) i
  where
    at : (o : Option Slot) → type_in m o ≡ type_in n o
    at None = refl
    at (Some s) = same s

-- slots whose types are joined make places whose types are
pub joined_types : (names : Names) (theirs ours final : Slots) → ((s : Slot) → type_of (final s) ≡ both (type_of (theirs s)) (type_of (ours s))) →
    types_by names final ≡ (λ q. both (types_by names theirs q) (types_by names ours q))
joined_types names theirs ours final each = λ i q. at (slot_of names q) i
  where
    at : (o : Option Slot) → type_in final o ≡ both (type_in theirs o) (type_in ours o)
    at None = refl
    at (Some s) = each s

-- ---- going back

-- no fact stands on a slot of a name without a number
pub tidy_back : (names : Names) (old new : Trail) → GoesBack old new → ((s : Slot) → IsBeyond names s → IsNew s old) → (s : Slot) → IsBeyond names s → IsNew s new
tidy_back names old new goes tidy s beyond = goes.fresh s (tidy s beyond)

-- the facts at the mark, once all changes since it are taken back
pub turned_known : (old : Facts) (mark : Mark) (trail : Trail) → map_of trail ≡ map_at mark.length old.trail → (if mark.dead then None else Some (types_by old.names (map_of trail))) ≡ known_at mark old
turned_known old mark trail back = ap (λ (m : Slots). if mark.dead then None else Some (types_by old.names m)) back

-- and what the arm makes of them is what there was
pub turned_arm : (old : Facts) (mark : Mark) (d : Difference) (trail : Trail) → length trail.changes.items ≡ mark.length → over d (map_of trail) ≡ map_of old.trail → ((s : Slot) → IsNew s old.trail → Leaves s d) →
    ((s : Slot) → IsBeyond old.names s → Leaves s d) × ((if old.dead then None else Some (types_by old.names (over d (map_at mark.length trail)))) ≡ known old)
turned_arm old mark d trail here made leaves = (
  λ s beyond. leaves s (old.tidy s beyond),
  ap (λ (m : Slots). if old.dead then None else Some (types_by old.names m)) (ap (over d) (map_at_end trail.changes.items mark.length (map_of trail) (omega (arith, here))) ∙ made),
)

-- ---- going on

pub tidy_on : (names : Names) (d : Difference) (old new : Trail) → Goes d old new → ((s : Slot) → IsBeyond names s → Leaves s d) → ((s : Slot) → IsBeyond names s → IsNew s old) → (s : Slot) → IsBeyond names s → IsNew s new
tidy_on names d old new goes leaves tidy s beyond = goes.fresh s (leaves s beyond) (tidy s beyond)

-- changes that are made keep all marks
pub went_on : (d : Difference) (old new : Facts) → new.names ≡ old.names → new.marks ≡ old.marks → Goes d old.trail new.trail → KeepsMarks old new
went_on d old new names marks goes = keeps_marks old new marks (same_names old new names) goes.longer goes.moments

at_most : (m n : ℕ) → m ≡ n → n ≤ m
at_most m n same = omega (arith, same)

-- the facts at the mark, once the changes of an arm are made
pub resumed_known : (mark : Mark) (arm : Arm) (old : Facts) (trail : Trail) → IsAt mark old → SameTypes (map_of trail) (over arm.difference (map_of old.trail)) → (if arm.dead then None else Some (types_by old.names (map_of trail))) ≡ known_over mark arm old
resumed_known mark arm old trail here types =
    ap (λ (x : Map). if arm.dead then None else Some x)
    (types_same old.names (map_of trail) (over arm.difference (map_of old.trail)) types
    ∙ (λ i. types_by old.names (over arm.difference (sym (map_at_end old.trail.changes.items mark.length (map_of old.trail) (at_most mark.length (length old.trail.changes.items) here)) i))))

-- ---- joining

-- a dead arm is joined by nothing
pub dead_arm : (mark : Mark) (arm : Arm) (f : Facts) → arm.dead ≡ true → known f ≡ joined (known_over mark arm f) (known f)
dead_arm mark arm f dead = λ i. joined (if sym dead i then None else Some (types_by f.names (over arm.difference (map_at mark.length f.trail)))) (known f)

alive_over : (mark : Mark) (arm : Arm) (f : Facts) → arm.dead ≡ false → (k : Known) → k ≡ known_over mark arm f → k ≡ joined (known_over mark arm f) None
alive_over mark arm f alive k is = is ∙ (λ i. if alive i then None else Some whole) ∙ (λ i. joined (if sym alive i then None else Some whole) None)
  where
    whole : Map
    whole = types_by f.names (over arm.difference (map_at mark.length f.trail))

-- where our facts are dead, the arm's are left
pub resumed : {T E : Type 0} (r : Result T E) (mark : Mark) (arm : Arm) (old mid new : Facts) → arm.dead ≡ false → old.dead ≡ true → IsLast mark old → IsArmOf arm old → KeepsMarksUpTo mark old mid →
    OnOk r (known new ≡ known_over mark arm mid) → OnOk r (known new ≡ joined (known_over mark arm old) (known old))
resumed (Err x) mark arm old mid new alive dead last of kept made = tt
resumed (Ok x) mark arm old mid new alive dead last of kept made =
    let is = last_of mark old last in
    alive_over mark arm old alive (known new) (made ∙ ((kept.each mark is.0 is.1).2 arm of).1) ∙ (λ i. joined (known_over mark arm old) (if sym dead i then None else Some (shown old)))

-- what is joined is left without a fact where both arms leave it
pub joined_leaves : (names : Names) (trail : Trail) (first second d : Difference) → ((s : Slot) → type_of (over d (map_of trail) s) ≡ joined_type first second (map_of trail) s) → ((s : Slot) → IsBeyond names s → Leaves s first) →
    ((s : Slot) → IsBeyond names s → IsNew s trail) → (s : Slot) → IsBeyond names s → Leaves s d
joined_leaves names trail first second d joins firsts tidy s beyond =
    let none = none_now trail s (tidy s beyond) in
    sym (over_none d s (map_of trail) none)
    ∙ no_type (over d (map_of trail) s) (joins s ∙ ap (λ x. both (type_of x) (type_of (over second (map_of trail) s))) (over_none first s (map_of trail) none ∙ firsts s beyond))
  where
    no_type : (o : Option Fact) → type_of o ≡ None → o ≡ None
    no_type None is = refl
    no_type (Some fact) is = cc

-- what two arms make of the facts at the mark is joined
pub joined_known : (mark : Mark) (arm ours : Arm) (old : Facts) (trail : Trail) (d : Difference) → IsAt mark old → ((s : Slot) → type_of (over d (map_of old.trail) s) ≡ joined_type arm.difference ours.difference (map_of old.trail) s) →
    SameTypes (map_of trail) (over d (map_of old.trail)) → arm.dead ≡ false → ours.dead ≡ false → ◌≡◌ {A = Known} (Some (types_by old.names (map_of trail))) (joined (known_over mark arm old) (known_over mark ours old))
joined_known mark arm ours old trail d here joins made first second =
    ap Some
    (joined_types old.names (over arm.difference (map_of old.trail)) (over ours.difference (map_of old.trail)) (map_of trail) (λ s. made s ∙ joins s)
    ∙ (λ i q. both (types_by old.names (over arm.difference (stands i)) q) (types_by old.names (over ours.difference (stands i)) q)))
    ∙ (λ i. joined (if sym first i then None else Some (types_by old.names (over arm.difference (map_at mark.length old.trail)))) (if sym second i then None else Some (types_by old.names (over ours.difference (map_at mark.length old.trail)))))
  where
    stands : map_of old.trail ≡ map_at mark.length old.trail
    stands = sym (map_at_end old.trail.changes.items mark.length (map_of old.trail) (at_most mark.length (length old.trail.changes.items) here))

-- an arm that makes live facts is live
live_arm : (dead : Bool) (x y : Map) → (if dead then None else Some x) ≡ Some y → dead ≡ false
live_arm true x y is = cc
live_arm false x y is = refl

-- once the facts went back to the mark, and their arm was joined with another one
pub arm_joined : {T E : Type 0} (r : Result T E) (mark : Mark) (arm ours : Arm) (old mid new : Facts) → arm.dead ≡ false → old.dead ≡ false → IsLast mark old → IsArmOf arm old → KeepsMarksUpTo mark old mid → known_over mark ours mid ≡ known old →
    OnOk r (arm.dead ≡ false → ours.dead ≡ false → known new ≡ joined (known_over mark arm mid) (known_over mark ours mid)) → OnOk r (known new ≡ joined (known_over mark arm old) (known old))
arm_joined (Err x) mark arm ours old mid new first second last of kept made joins = tt
arm_joined (Ok x) mark arm ours old mid new first second last of kept made joins =
    let is = last_of mark old last in
    joins first (live_arm ours.dead (types_by mid.names (over ours.difference (map_at mark.length mid.trail))) (shown old) (made ∙ (λ i. if second i then None else Some (shown old))))
    ∙ (λ i. joined (((kept.each mark is.0 is.1).2 arm of).1 i) (made i))

pub arm_stays : (mark : Mark) (arm : Arm) (old mid : Facts) → IsLast mark old → IsArmOf arm old → KeepsMarksUpTo mark old mid → IsArmOf arm mid
arm_stays mark arm old mid last of kept = let is = last_of mark old last in ((kept.each mark is.0 is.1).2 arm of).0

-- ---- functions inside

-- a mark that was made, and facts that changed after it
pub entered : (mark : Mark) (old mid new : Facts) → OpensMark mark old mid → known mid ≡ known old → KeepsMarks mid new → EntersMark mark old new
entered mark old mid new opens same kept =
    let is = last_of mark mid opens.last in
    let own = kept.each mark is.0 in
    record {
      last = (opens.last.0 ∙ sym kept.count, own.0.1);
      depth = opens.depth;
      before = own.1 ∙ opens.now ∙ same;
      each = λ m was. let once = opens.each m was in (once.0, keeps_mark_twice old mid new m once.1 (kept.each m once.1.0));
    }
