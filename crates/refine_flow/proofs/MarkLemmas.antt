-- What changes of the trail do to the facts at marks.
use Rattle.std.proofs.Common.{◌≡◌, ◌≤◌, ◌⊎◌, ℕ, Bool, true, false, List, Some, None, length, refl, sym, ap, ◌∙◌, inl, inr, if◌then◌else◌, arith}
use Rattle.fact_trail.specs.Moments.{map_at, KeepsMoments}
use Rattle.fact_trail.proofs.Changes.{absent}
use Rattle.fact_arms.specs.Differences.{over}
use Rattle.fact_arms.proofs.Moving.{over_none}
use Rattle.flow_facts.specs.Known.{Map, live}
use Rattle.refine_flow.specs.declared.names.Names.{Names}
use Rattle.refine_flow.specs.declared.facts.Facts.{Facts}
use Rattle.refine_flow.specs.declared.facts.Mark.{Mark}
use Rattle.refine_flow.specs.declared.facts.Arm.{Arm}
use Rattle.refine_flow.specs.Numbers.{number_of, names_len, GrowsNames}
use Rattle.refine_flow.specs.Standing.{types_by, shown, known, known_over, IsArmOf, KeepsMark, KeepsMarks, Changes}
use Rattle.refine_flow.proofs.Growing.{beyond_before}
use Rattle.refine_flow.proofs.Types.{types_grown}

pub grows_itself : (names : Names) → GrowsNames names names
grows_itself names = (omega arith, λ x. inl refl)

pub grows_twice : (a b c : Names) → GrowsNames a b → GrowsNames b c → GrowsNames a c
grows_twice a b c first second = (let one = first.0 in let two = second.0 in omega (arith, one, two), λ x. at x (first.1 x) (second.1 x))
  where
    at : (x : List ℕ) → ((number_of b x ≡ number_of a x) ⊎ ((number_of a x ≡ None) × (n : ℕ) × (number_of b x ≡ Some n) × (names_len a ≤ n))) →
        ((number_of c x ≡ number_of b x) ⊎ ((number_of b x ≡ None) × (n : ℕ) × (number_of c x ≡ Some n) × (names_len b ≤ n))) → (number_of c x ≡ number_of a x) ⊎ ((number_of a x ≡ None) × (n : ℕ) × (number_of c x ≡ Some n) × (names_len a ≤ n))
    at x (inl same) (inl again) = inl (again ∙ same)
    at x (inl same) (inr given) = inr (sym same ∙ given.0, given.1, given.2, let one = first.0 in let more = given.3 in omega (arith, one, more))
    at x (inr given) (inl again) = inr (given.0, given.1, again ∙ given.2, given.3)
    at x (inr given) (inr again) = absurd (clash (sym again.0 ∙ given.2))
      where
        clash : None ≡ Some given.1 → ⊥
        clash is = cc

-- the types at a moment, where names get numbers
pub types_then : (old new : Facts) (n : ℕ) → GrowsNames old.names new.names → n ≤ length old.trail.changes.items → KeepsMoments (length old.trail.changes.items) old.trail new.trail →
    types_by new.names (map_at n new.trail) ≡ types_by old.names (map_at n old.trail)
types_then old new n grows within keeps =
    ap (types_by new.names) (keeps n within) ∙ types_grown old.names new.names (map_at n old.trail) grows (λ s beyond. absent (map_at n old.trail s) (old.tidy s beyond n))

pub arm_stays : (old new : Facts) (arm : Arm) → names_len old.names ≤ names_len new.names → IsArmOf arm old → IsArmOf arm new
arm_stays old new arm more is s beyond = is s (beyond_before old.names new.names s more beyond)

pub arm_same : (old new : Facts) (mark : Mark) (arm : Arm) → GrowsNames old.names new.names → mark.length ≤ length old.trail.changes.items →
    KeepsMoments (length old.trail.changes.items) old.trail new.trail → IsArmOf arm old → known_over mark arm new ≡ known_over mark arm old
arm_same old new mark arm grows within keeps is =
    ap (λ (x : Map). if arm.dead then None else Some x)
    (ap (λ m. types_by new.names (over arm.difference m)) (keeps mark.length within)
    ∙ types_grown old.names new.names (over arm.difference (map_at mark.length old.trail)) grows (λ s beyond. over_none arm.difference s (map_at mark.length old.trail) (absent (map_at mark.length old.trail s) (old.tidy s beyond mark.length)) ∙ is s beyond))

-- a call that only adds to the trail keeps all marks
pub keeps_marks : (old new : Facts) → new.marks ≡ old.marks → GrowsNames old.names new.names → length old.trail.changes.items ≤ length new.trail.changes.items →
    KeepsMoments (length old.trail.changes.items) old.trail new.trail → KeepsMarks old new
keeps_marks old new count grows longer keeps = record {
  count = count;
  names = grows;
  each = λ mark is. (
    (omega (arith, is.0, count), omega (arith, is.1, longer)),
    ap (λ (x : Map). if mark.dead then None else Some x) (types_then old new mark.length grows is.1 keeps),
    λ arm of. (arm_stays old new arm grows.0 of, arm_same old new mark arm grows is.1 keeps of),
  );
}

pub keeps_mark_twice : (a b c : Facts) (mark : Mark) → KeepsMark mark a b → KeepsMark mark b c → KeepsMark mark a c
keeps_mark_twice a b c mark first second = (
  second.0,
  second.1 ∙ first.1,
  λ arm of. let once = first.2 arm of in let twice = second.2 arm once.0 in (twice.0, twice.1 ∙ once.1),
)

pub keeps_twice : (a b c : Facts) → KeepsMarks a b → KeepsMarks b c → KeepsMarks a c
keeps_twice a b c first second = record { count = second.count ∙ first.count; names = grows_twice a.names b.names c.names first.names second.names; each = λ mark is. let once = first.each mark is in keeps_mark_twice a b c mark once (second.each mark once.0) }

pub keeps_itself : (f : Facts) → KeepsMarks f f
keeps_itself f = record { count = refl; names = grows_itself f.names; each = λ mark is. (is, refl, λ arm of. (of, refl)) }

-- ---- changes of the map

pub changed_twice : (f g : Map → Map) (a b c : Facts) → Changes f a b → Changes g b c → Changes (λ m. g (f m)) a c
changed_twice f g a b c first second = record {
  types = second.types ∙ ap g first.types;
  dead = second.dead ∙ first.dead;
  marks = keeps_twice a b c first.marks second.marks;
}

pub changed_as : (f g : Map → Map) (old new : Facts) → ((m : Map) → f m ≡ g m) → Changes f old new → Changes g old new
changed_as f g old new same change = record { types = change.types ∙ same (shown old); dead = change.dead; marks = change.marks }

pub nothing_changed : (f : Facts) → Changes (λ m. m) f f
nothing_changed f = record { types = refl; dead = refl; marks = keeps_itself f }

live_when : (change : Map → Map) (m : Map) (b : Bool) → (if b then None else Some (change m)) ≡ live change (if b then None else Some m)
live_when change m true = refl
live_when change m false = refl

-- the facts, where they are live
pub known_changed : (change : Map → Map) (old new : Facts) → Changes change old new → known new ≡ live change (known old)
known_changed change old new is = (λ i. if is.dead i then None else Some (is.types i)) ∙ live_when change (shown old) old.dead
