-- Ways in one another, while the inner ones change.
use Rattle.std.proofs.Common.{◌≡◌, List, [], ◌∷◌, ◌++◌, reverse, Option, Some, None, refl, ◌∙◌, ap, arith}
use Rattle.std.proofs.lemmas.List.{reverse-append}
use Rattle.refine_flow.specs.declared.facts.Facts.{Facts}
use Rattle.flow_facts.specs.Known.{joined}
use Rattle.refine_flow.specs.Standing.{known}
use Rattle.fact_ways.specs.declared.fork.Fork.{Fork}
use Rattle.fact_ways.specs.Ways.{Fits, Goes, Leads, StandsBefore, AreNested, outermost, way_of, ways_of, all_joined}
use Rattle.fact_ways.proofs.Marks.{last_is_of, before_twice, goes_nowhere, goes_through}

-- ways right round others stay so where the others go on
stands_on : (k : Fork) (r s : Option Fork) (a b : Facts) → Goes r a s b → StandsBefore k r a → StandsBefore k s b
stands_on k r s a b goes is =
    let kept = goes.each k.mark is.own is.earlier in
    record { own = kept.1.0; arm = (kept.1.2 k.arm is.arm).0; earlier = kept.0; next = goes.count ∙ is.next }

-- those round them see no change of theirs
goes_around : (k : Fork) (r s : Option Fork) (a b : Facts) → Goes r a s b → StandsBefore k r a → Goes (Some k) a (Some k) b
goes_around k r s a b goes is =
    record { count = refl; each = λ m own earlier. (earlier, (goes.each m own (before_twice m k r earlier is.earlier)).1) }

way_on : (k : Fork) (r s : Option Fork) (a b : Facts) → Goes r a s b → StandsBefore k r a → way_of b k ≡ way_of a k
way_on k r s a b goes is = ((goes.each k.mark is.own is.earlier).1.2 k.arm is.arm).1

pub nested_on : (ks : List Fork) (r s : Option Fork) (a b : Facts) → Goes r a s b → AreNested ks r a → AreNested ks s b
nested_on [] r s a b goes is = tt
nested_on (k ∷ ks) r s a b goes is =
    (stands_on k r s a b goes is.0, nested_on ks (Some k) (Some k) a b (goes_around k r s a b goes is.0) is.1)

pub ways_on : (ks : List Fork) (r s : Option Fork) (a b : Facts) → Goes r a s b → AreNested ks r a → ways_of b ks ≡ ways_of a ks
ways_on [] r s a b goes is = refl
ways_on (k ∷ ks) r s a b goes is =
    let first = way_on k r s a b goes is.0 in
    let rest = ways_on ks (Some k) (Some k) a b (goes_around k r s a b goes is.0) is.1 in
    cc

-- and from the outermost ones the same marks stay
pub outermost_on : (ks : List Fork) (r s : Option Fork) (a b : Facts) → Goes r a s b → AreNested ks r a → Goes (outermost ks r) a (outermost ks s) b
outermost_on [] r s a b goes is = goes
outermost_on (k ∷ ks) r s a b goes is = outermost_on ks (Some k) (Some k) a b (goes_around k r s a b goes is.0) is.1

-- ---- one more, and one less

-- ways that stand are right round all that is read behind them
pub fits_stands : (k : Fork) (f : Facts) → Fits (Some k) f → StandsBefore k None f
fits_stands k f fits = record { own = last_is_of k.mark f fits.0; arm = fits.1; earlier = tt; next = let last = fits.0.0 in omega (arith, last) }

pub stands_fits : (k : Fork) (f : Facts) → StandsBefore k None f → Fits (Some k) f
stands_fits k f is = (let next = is.next in (omega (arith, next), is.own.1), is.arm)

pub nested_more : (ks : List Fork) (k : Fork) (f : Facts) → Fits (Some k) f → AreNested ks (Some k) f → AreNested (k ∷ ks) None f
nested_more ks k f fits is = (fits_stands k f fits, is)

-- ways of which nothing is told stand round nothing
pub nested_less : (ks : List Fork) (k : Fork) (f : Facts) → AreNested (k ∷ ks) None f → Fits (Some k) f
nested_less ks k f is = stands_fits k f is.0

-- ---- ways that meet, one by one

-- Some ways met the inner ones, the first ones first, and others are left.
pub record Meets (all : List Fork) (inner : Fork) (a : Facts) (left : List Fork) (last : Fork) (b : Facts) : Type 0 where
  pub fits : Fits (Some last) b
  pub nested : AreNested left (Some last) b
  pub facts : all_joined (ways_of b left) (known b) ≡ all_joined (ways_of a all) (known a)
  pub arm : way_of b last ≡ way_of a inner
  pub goes : Goes (outermost all (Some inner)) a (outermost left (Some last)) b

pub meets_none : (all : List Fork) (inner : Fork) (a : Facts) → Fits (Some inner) a → AreNested all (Some inner) a → Meets all inner a all inner a
meets_none all inner a fits nested = record { fits = fits; nested = nested; facts = refl; arm = refl; goes = goes_nowhere (outermost all (Some inner)) a }

pub meets_one : (all : List Fork) (inner : Fork) (a : Facts) (k : Fork) (left : List Fork) (last next : Fork) (b c : Facts) → Meets all inner a (k ∷ left) last b →
    known c ≡ joined (way_of b k) (known b) → way_of c next ≡ way_of b last → Leads (Some k) b (Some next) c → Meets all inner a left next c
meets_one all inner a k left last next b c before facts arm leads = record {
  fits = leads.fits;
  nested = nested_on left (Some k) (Some next) b c leads.goes before.nested.1;
  facts = (λ i. all_joined (ways_on left (Some k) (Some next) b c leads.goes before.nested.1 i) (facts i)) ∙ before.facts;
  arm = arm ∙ before.arm;
  goes = goes_through (outermost all (Some inner)) (outermost left (Some k)) (outermost left (Some next)) a b c before.goes (outermost_on left (Some k) (Some next) b c leads.goes before.nested.1);
}

-- a list that loses its last one
pub reverse_last : {X : Type 0} (xs ys : List X) (x : X) → xs ≡ ys ++ x ∷ [] → reverse xs ≡ x ∷ reverse ys
reverse_last xs ys x is = ap reverse is ∙ reverse-append ys (x ∷ [])
