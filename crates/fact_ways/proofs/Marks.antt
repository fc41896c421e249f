-- Marks that stay, from ways to ways.
use Rattle.std.proofs.Common.{◌≡◌, ◌<◌, ◌+◌, Option, Some, None, refl, sym, ap, ◌∙◌, subst, arith}
use Rattle.refine_flow.specs.declared.facts.Facts.{Facts}
use Rattle.refine_flow.specs.declared.facts.Mark.{Mark}
use Rattle.refine_flow.specs.declared.facts.Arm.{Arm}
use Rattle.refine_flow.specs.Standing.{known_over, open_marks, depth_of, IsOf, IsLast, IsUpTo, IsArmOf, KeepsMark, KeepsMarks, KeepsMarksUpTo, SpendsMark, SpendsInner, OpensMark, EntersMark}
use Rattle.fact_ways.specs.declared.fork.Fork.{Fork}
use Rattle.fact_ways.specs.Ways.{Fits, IsBefore, Goes, Leads, StandsBefore}

-- ---- one mark

pub up_to_itself : (m : Mark) → IsUpTo m m
up_to_itself m = (omega arith, omega arith)

pub up_to_twice : (a b c : Mark) → IsUpTo a b → IsUpTo b c → IsUpTo a c
up_to_twice a b c first second = (omega (arith, first.0, second.0), omega (arith, first.1, second.1))

pub keeps_twice : (m : Mark) (a b c : Facts) → KeepsMark m a b → KeepsMark m b c → KeepsMark m a c
keeps_twice m a b c first second = (
  second.0,
  second.1 ∙ first.1,
  λ arm of. let once = first.2 arm of in let twice = second.2 arm once.0 in (twice.0, twice.1 ∙ once.1),
)

-- the last mark is one of the facts
pub last_is_of : (m : Mark) (f : Facts) → IsLast m f → IsOf m f
last_is_of m f last = (omega (arith, last.0), last.1)

-- and stays the last one where as many are open
pub last_stays : (m : Mark) (a b : Facts) → open_marks b ≡ open_marks a → IsLast m a → KeepsMark m a b → IsLast m b
last_stays m a b count last kept = (last.0 ∙ sym count, kept.0.1)

-- a mark before ways is before those in which they stand
pub before_twice : (m : Mark) (k : Fork) (inner : Option Fork) → IsBefore m (Some k) → IsBefore k.mark inner → IsBefore m inner
before_twice m k None first second = tt
before_twice m k (Some inner) first second =
    (up_to_twice m k.mark inner.mark first.0 second.0, omega (arith, first.1, second.1))

-- ---- from ways to ways

pub goes_nowhere : (r : Option Fork) (f : Facts) → Goes r f r f
goes_nowhere r f = record { count = refl; each = λ m is earlier. (earlier, (is, refl, λ arm of. (of, refl))) }

pub goes_through : (r s t : Option Fork) (a b c : Facts) → Goes r a s b → Goes s b t c → Goes r a t c
goes_through r s t a b c first second = record {
  count = second.count ∙ first.count;
  each = λ m is earlier. let once = first.each m is earlier in let twice = second.each m once.1.0 once.0 in
      (twice.0, keeps_twice m a b c once.1 twice.1);
}

pub leads_through : (r s t : Option Fork) (a b c : Facts) → Leads r a s b → Leads s b t c → Leads r a t c
leads_through r s t a b c first second = record { fits = second.fits; goes = goes_through r s t a b c first.goes second.goes }

-- calls of the facts that keep all marks
pub keeps_goes : (a b : Facts) → KeepsMarks a b → Goes None a None b
keeps_goes a b keeps = record { count = keeps.count; each = λ m is earlier. (tt, keeps.each m is) }

pub keeps_leads : (a b : Facts) → KeepsMarks a b → Leads None a None b
keeps_leads a b keeps = record { fits = tt; goes = keeps_goes a b keeps }

-- what goes on behind ways leaves them as they are
pub goes_under : (r : Option Fork) (k : Fork) (s : Option Fork) (a b c : Facts) → Goes r a (Some k) b → Goes None b s c → Goes r a (Some k) c
goes_under r k s a b c first second = record {
  count = first.count;
  each = λ m is earlier. let once = first.each m is earlier in (once.0, keeps_twice m a b c once.1 (second.each m once.1.0 tt).1);
}

-- and the ways stand again once all marks behind them are spent
pub fits_again : (k : Fork) (a b : Facts) → Fits (Some k) a → Goes None a None b → Fits (Some k) b
fits_again k a b fits goes =
    let kept = (goes.each k.mark (last_is_of k.mark a fits.0) tt).1 in
    (last_stays k.mark a b goes.count fits.0 kept, (kept.2 k.arm fits.1).0)

-- with the same way of the arm
pub way_again : (k : Fork) (a b : Facts) → Fits (Some k) a → Goes None a None b → known_over k.mark k.arm b ≡ known_over k.mark k.arm a
way_again k a b fits goes = ((goes.each k.mark (last_is_of k.mark a fits.0) tt).1.2 k.arm fits.1).1

pub leads_under : (r : Option Fork) (k : Fork) (a b c : Facts) → Leads r a (Some k) b → Leads None b None c → Leads r a (Some k) c
leads_under r k a b c first second =
    record { fits = fits_again k b c first.fits second.goes; goes = goes_under r k None a b c first.goes second.goes }

-- ---- the calls

-- a mark, and going back to it
pub stands : (k : Fork) (a b c : Facts) → OpensMark k.mark a b → KeepsMarksUpTo k.mark b c → IsArmOf k.arm c → Leads None a (Some k) c
stands k a b c opens kept of = record {
  fits = (last_stays k.mark b c kept.count opens.last (kept.each k.mark (last_is_of k.mark b opens.last) (up_to_itself k.mark)), of);
  goes = record {
    count = opens.depth;
    each = λ m is earlier. let once = opens.each m is in
        ((once.0, omega (arith, is.0, opens.depth)), keeps_twice m a b c once.1 (kept.each m once.1.0 once.0));
  };
}

-- going back to the mark of ways, and going on from it
pub swaps : (k j : Fork) (a b c : Facts) → k.mark ≡ j.mark → Fits (Some k) a → KeepsMarksUpTo k.mark a b → KeepsMarks b c → IsArmOf j.arm b → Leads (Some k) a (Some j) c
swaps k j a b c same fits kept keeps of =
    let own = last_is_of k.mark a fits.0 in
    let once = kept.each k.mark own (up_to_itself k.mark) in
    let twice = keeps.each k.mark once.0 in
    record {
      fits = (subst (λ mark. IsLast mark c) same (last_stays k.mark a c (keeps.count ∙ kept.count) fits.0 (keeps_twice k.mark a b c once twice)), (twice.2 j.arm of).0);
      goes = record {
        count = ap depth_of (sym same);
        each = λ m is earlier. let first = kept.each m is earlier.0 in
            (subst (λ mark. IsUpTo m mark × (depth_of m < depth_of mark)) same earlier, keeps_twice m a b c first (keeps.each m first.0));
      };
    }

-- an arm is one of the facts still
pub arm_still : (k : Fork) (a b : Facts) → Fits (Some k) a → KeepsMarksUpTo k.mark a b → IsArmOf k.arm b
arm_still k a b fits kept = ((kept.each k.mark (last_is_of k.mark a fits.0) (up_to_itself k.mark)).2 k.arm fits.1).0

-- and makes the same of the facts at its mark
pub arm_made : (k : Fork) (a b : Facts) → Fits (Some k) a → KeepsMarksUpTo k.mark a b → known_over k.mark k.arm b ≡ known_over k.mark k.arm a
arm_made k a b fits kept = ((kept.each k.mark (last_is_of k.mark a fits.0) (up_to_itself k.mark)).2 k.arm fits.1).1

-- so does an arm that came later
pub arm_kept : (k : Fork) (arm : Arm) (a b c : Facts) → Fits (Some k) a → KeepsMarksUpTo k.mark a b → IsArmOf arm b → KeepsMarks b c → known_over k.mark arm c ≡ known_over k.mark arm b
arm_kept k arm a b c fits kept of keeps = ((keeps.each k.mark (kept.each k.mark (last_is_of k.mark a fits.0) (up_to_itself k.mark)).0).2 arm of).1

-- a way that left makes the same where an inner mark is spent
pub way_inside : (k last : Fork) (a b : Facts) → StandsBefore k (Some last) a → SpendsInner k.mark last.mark a b → known_over k.mark k.arm b ≡ known_over k.mark k.arm a
way_inside k last a b is spent = ((spent.each k.mark is.own (up_to_itself k.mark)).2 k.arm is.arm).1

-- and so does the longer arm after that
pub arm_inside : (k last : Fork) (arm : Arm) (a b c : Facts) → StandsBefore k (Some last) a → SpendsInner k.mark last.mark a b → IsArmOf arm b → KeepsMarksUpTo k.mark b c → known_over k.mark arm c ≡ known_over k.mark arm b
arm_inside k last arm a b c is spent of kept = ((kept.each k.mark (spent.each k.mark is.own (up_to_itself k.mark)).0 (up_to_itself k.mark)).2 arm of).1

-- the mark of ways is spent
pub spent_leads : (k : Fork) (a b : Facts) → SpendsMark k.mark a b → Leads (Some k) a None b
spent_leads k a b spent =
    record { fits = tt; goes = record { count = spent.count; each = λ m is earlier. (tt, spent.each m is earlier.0 earlier.1) } }

-- the mark of ways is spent, after calls that kept it
pub spends : (k : Fork) (a b c : Facts) → Fits (Some k) a → KeepsMarksUpTo k.mark a b → SpendsMark k.mark b c → Leads (Some k) a None c
spends k a b c fits kept spent = record {
  fits = tt;
  goes = record {
    count = spent.count;
    each = λ m is earlier. let once = kept.each m is earlier.0 in (tt, keeps_twice m a b c once (spent.each m once.0 earlier.0 earlier.1));
  };
}

-- the mark of ways inside others is spent, and calls kept that of the others
pub lengthens : (k j last : Fork) (a b c : Facts) → k.mark ≡ j.mark → StandsBefore k (Some last) a → SpendsInner k.mark last.mark a b → KeepsMarksUpTo k.mark b c → IsArmOf j.arm b → Leads (Some k) a (Some j) c
lengthens k j last a b c same is spent kept of =
    let once = spent.each k.mark is.own (up_to_itself k.mark) in
    let twice = kept.each k.mark once.0 (up_to_itself k.mark) in
    let next : depth_of last.mark ≡ depth_of k.mark + 1 = is.next in
    let own : IsLast k.mark c = (sym next ∙ sym spent.count ∙ sym kept.count, twice.0.1) in
    record {
      fits = (subst (λ mark. IsLast mark c) same own, (twice.2 j.arm of).0);
      goes = record {
        count = ap depth_of (sym same);
        each = λ m own earlier. let first = spent.each m own earlier.0 in
            (subst (λ mark. IsUpTo m mark × (depth_of m < depth_of mark)) same earlier, keeps_twice m a b c first (kept.each m first.0 earlier.0));
      };
    }

-- ---- functions inside

-- the facts go on, and the mark of those around stays the last one
pub enters_on : (mark : Mark) (a b c : Facts) → EntersMark mark a b → Goes None b None c → EntersMark mark a c
enters_on mark a b c enters goes =
    let kept = (goes.each mark (last_is_of mark b enters.last) tt).1 in
    record {
      last = last_stays mark b c goes.count enters.last kept;
      depth = enters.depth;
      before = kept.1 ∙ enters.before;
      each = λ m is. let once = enters.each m is in (once.0, keeps_twice m a b c once.1 (goes.each m once.1.0 tt).1);
    }

-- the mark is spent, and as many stand as before it
pub enters_ends : (mark : Mark) (a b c : Facts) → EntersMark mark a b → SpendsMark mark b c → Goes None a None c
enters_ends mark a b c enters spent = record {
  count = spent.count ∙ enters.depth;
  each = λ m is earlier. let once = enters.each m is in (tt, keeps_twice m a b c once.1 (spent.each m once.1.0 once.0 (omega (arith, is.0, enters.depth))));
}
