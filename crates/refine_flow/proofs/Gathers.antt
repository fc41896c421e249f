-- What ways made of facts where they met, gathered behind them.
use Rattle.std.proofs.Common.{◌≡◌, true, false, Some, None, Result, Ok, Err, IfOk, sym, ap, ◌∙◌, subst, if◌then◌else◌, arith}
use Rattle.fact_trail.specs.declared.trail.Trail.{Trail}
use Rattle.fact_trail.specs.declared.slot.Slot.{Slot}
use Rattle.fact_trail.specs.Slots.{Map as Slots}
use Rattle.fact_trail.specs.Moments.{map_of, map_at, IsNew}
use Rattle.fact_trail.proofs.Changes.{map_at_end}
use Rattle.fact_arms.specs.declared.difference.Difference.{Difference}
use Rattle.fact_arms.specs.declared.gathered.Gathered.{Gathered}
use Rattle.fact_arms.specs.Differences.{over, type_of, SameTypes, Leaves}
use Rattle.fact_arms.specs.Joining.{joined_type}
use Rattle.fact_arms.specs.Gathering.{Settled}
use Rattle.flow_facts.specs.Known.{Map, Known, both, joined}
use Rattle.refine_flow.specs.declared.facts.Facts.{Facts}
use Rattle.refine_flow.specs.declared.facts.Mark.{Mark}
use Rattle.refine_flow.specs.declared.facts.Arm.{Arm}
use Rattle.refine_flow.specs.Numbers.{IsBeyond}
use Rattle.refine_flow.specs.Standing.{types_by, known, known_over, IsLast, IsAt, IsArmOf, KeepsMarks, KeepsMarksUpTo, SpendsMark}
use Rattle.refine_flow.specs.Gathered.{known_with, IsGathered}
use Rattle.refine_flow.proofs.MarkLemmas.{keeps_itself, keeps_mark_twice, grows_twice}
use Rattle.refine_flow.proofs.Turning.{last_of, kept_up_to_then, spent, types_same, joined_types, joined_leaves}

-- nothing is gathered
pub with_nothing : (g : Gathered) (f : Facts) → ((m : Slots) → over g.difference m ≡ m) → known_with g f ≡ known f
with_nothing g f made = λ i. if f.dead then None else Some (types_by f.names (made (map_of f.trail) i))

-- ---- going back

pub with_before : (g h : Gathered) (old : Facts) (trail : Trail) → over h.difference (map_of trail) ≡ over g.difference (map_of old.trail) → (if old.dead then None else Some (types_by old.names (over h.difference (map_of trail)))) ≡ known_with g old
with_before g h old trail made = λ i. if old.dead then None else Some (types_by old.names (made i))

pub gathered_before : (g h : Gathered) (old : Facts) (new : Facts) → new.names ≡ old.names → IsGathered g old → Settled h (map_of new.trail) → ((s : Slot) → IsNew s old.trail → Leaves s g.difference → Leaves s h.difference) → IsGathered h new
gathered_before g h old new names is settled leaves = record {
  settled = settled;
  leaves = λ s beyond. let earlier = subst (λ ns. IsBeyond ns s) names beyond in leaves s (old.tidy s earlier) (is.leaves s earlier);
}

-- ---- an arm

-- the facts at a mark where nothing changed since it
now_at : (mark : Mark) (f : Facts) → IsAt mark f → map_at mark.length f.trail ≡ map_of f.trail
now_at mark f here = map_at_end f.trail.changes.items mark.length (map_of f.trail) (omega (arith, here))

-- a dead arm
pub dead_with : (g : Gathered) (mark : Mark) (arm : Arm) (f : Facts) → arm.dead ≡ true → known_with g f ≡ joined (known_over mark arm f) (known_with g f)
dead_with g mark arm f dead = λ i. joined (if sym dead i then None else Some (types_by f.names (over arm.difference (map_at mark.length f.trail)))) (known_with g f)

-- where the facts are dead, the arm's are left
pub alone_with : (g h : Gathered) (mark : Mark) (arm : Arm) (old : Facts) → arm.dead ≡ false → old.dead ≡ true → h.difference ≡ arm.difference → IsAt mark old →
    ◌≡◌ {A = Known} (Some (types_by old.names (over h.difference (map_of old.trail)))) (joined (known_over mark arm old) (known_with g old))
alone_with g h mark arm old live dead same here =
    (λ i. left (same i) (sym (now_at mark old here) i))
    ∙ (λ i. joined (if sym live i then None else left arm.difference (map_at mark.length old.trail)) (if sym dead i then None else left g.difference (map_of old.trail)))
  where
    left : Difference → Slots → Known
    left d m = Some (types_by old.names (over d m))

pub alone_gathered : (h : Gathered) (arm : Arm) (old new : Facts) → new.names ≡ old.names → new.trail ≡ old.trail → h.difference ≡ arm.difference → IsArmOf arm old → Settled h (map_of old.trail) → IsGathered h new
alone_gathered h arm old new names trail same of settled = record {
  settled = subst (λ (t : Trail). Settled h (map_of t)) (sym trail) settled;
  leaves = λ s beyond. subst (λ (d : Difference). Leaves s d) (sym same) (of s (subst (λ ns. IsBeyond ns s) names beyond));
}

-- where both are live they are joined
pub met_with : (g h : Gathered) (mark : Mark) (arm : Arm) (f : Facts) → arm.dead ≡ false → f.dead ≡ false → IsAt mark f → ((s : Slot) → type_of (over h.difference (map_of f.trail) s) ≡ joined_type arm.difference g.difference (map_of f.trail) s) →
    known_with h f ≡ joined (known_over mark arm f) (known_with g f)
met_with g h mark arm f live alive here joins =
    (λ i. if alive i then None else Some (types_by f.names (over h.difference (map_of f.trail))))
    ∙ ap Some (joined_types f.names (over arm.difference (map_of f.trail)) (over g.difference (map_of f.trail)) (over h.difference (map_of f.trail)) joins
    ∙ (λ i q. both (types_by f.names (over arm.difference (sym (now_at mark f here) i)) q) (types_by f.names (over g.difference (map_of f.trail)) q)))
    ∙ (λ i. joined (if sym live i then None else Some (types_by f.names (over arm.difference (map_at mark.length f.trail)))) (if sym alive i then None else Some (types_by f.names (over g.difference (map_of f.trail)))))

pub met_gathered : (g h : Gathered) (arm : Arm) (f : Facts) → IsArmOf arm f → Settled h (map_of f.trail) → ((s : Slot) → type_of (over h.difference (map_of f.trail) s) ≡ joined_type arm.difference g.difference (map_of f.trail) s) → IsGathered h f
met_gathered g h arm f of settled joins = record { settled = settled; leaves = joined_leaves f.names f.trail arm.difference g.difference h.difference joins of f.tidy }

-- ---- marks

-- those before a mark stay where it is spent after calls that kept them
pub kept_spent : (mark : Mark) (a b c : Facts) → KeepsMarksUpTo mark a b → SpendsMark mark b c → SpendsMark mark a c
kept_spent mark a b c kept spent = record {
  count = spent.count;
  names = grows_twice a.names b.names c.names kept.names spent.names;
  each = λ m is up earlier. let once = kept.each m is up in keeps_mark_twice a b c m once (spent.each m once.0 up earlier);
}

-- ---- going on

pub made_with : (g : Gathered) (old : Facts) (trail : Trail) → SameTypes (map_of trail) (over g.difference (map_of old.trail)) → (if old.dead then None else Some (types_by old.names (map_of trail))) ≡ known_with g old
made_with g old trail types = ap (λ (x : Map). if old.dead then None else Some x) (types_same old.names (map_of trail) (over g.difference (map_of old.trail)) types)

-- ---- whatever the result

pub nothing_known : {E : Type 0} (r : Result Gathered E) (f : Facts) → IfOk r (λ g. (m : Slots) → over g.difference m ≡ m) → IfOk r (λ g. known_with g f ≡ known f)
nothing_known (Ok g) f made = with_nothing g f made
nothing_known (Err x) f made = tt

pub nothing_gathered : {E : Type 0} (r : Result Gathered E) (f : Facts) → IfOk r (λ g. (s : Slot) → Leaves s g.difference) → IfOk r (λ g. Settled g (map_of f.trail)) → IfOk r (λ g. IsGathered g f)
nothing_gathered (Ok g) f leaves settled = record { settled = settled; leaves = λ s beyond. leaves s }
nothing_gathered (Err x) f leaves settled = tt

pub alone_known : {E : Type 0} (r : Result Gathered E) (g : Gathered) (mark : Mark) (arm : Arm) (old : Facts) → arm.dead ≡ false → old.dead ≡ true → IsAt mark old → IfOk r (λ h. h.difference ≡ arm.difference) →
    IfOk r (λ h. ◌≡◌ {A = Known} (Some (types_by old.names (over h.difference (map_of old.trail)))) (joined (known_over mark arm old) (known_with g old)))
alone_known (Ok h) g mark arm old live dead here same = alone_with g h mark arm old live dead same here
alone_known (Err x) g mark arm old live dead here same = tt

pub alone_gathers : {E : Type 0} (r : Result Gathered E) (arm : Arm) (old new : Facts) → new.names ≡ old.names → new.trail ≡ old.trail → IsArmOf arm old → IfOk r (λ h. h.difference ≡ arm.difference) → IfOk r (λ h. Settled h (map_of old.trail)) → IfOk r (λ h. IsGathered h new)
alone_gathers (Ok h) arm old new names trail of same settled = alone_gathered h arm old new names trail same of settled
alone_gathers (Err x) arm old new names trail of same settled = tt

-- ---- one way

pub way_spent : (mark : Mark) (old mid far new : Facts) → KeepsMarksUpTo mark old mid → KeepsMarks mid far → new.names ≡ far.names → new.trail ≡ far.trail → new.marks ≡ mark.depth → SpendsMark mark old new
way_spent mark old mid far new kept keeps names trail count = kept_spent mark old far new (kept_up_to_then mark old mid far kept keeps) (spent mark far new new names trail count (keeps_itself new))

-- the same of facts of which fewer marks are open
pub gathered_same : (g : Gathered) (old new : Facts) → new.names ≡ old.names → new.trail ≡ old.trail → IsGathered g old → IsGathered g new
gathered_same g old new names trail is = record {
  settled = subst (λ (t : Trail). Settled g (map_of t)) (sym trail) is.settled;
  leaves = λ s beyond. is.leaves s (subst (λ ns. IsBeyond ns s) names beyond);
}

-- what an arm made of the facts at the mark meets what was gathered before
pub way_met : (g h k : Gathered) (mark : Mark) (arm : Arm) (old mid far : Facts) → IsLast mark old → IsArmOf arm old → KeepsMarksUpTo mark old mid → known_with h mid ≡ known_with g old → known_with k far ≡ joined (known_over mark arm mid) (known_with h mid) →
    known_with k far ≡ joined (known_over mark arm old) (known_with g old)
way_met g h k mark arm old mid far last of kept before meets = let is = last_of mark old last in meets ∙ (λ i. joined (((kept.each mark is.0 is.1).2 arm of).1 i) (before i))
