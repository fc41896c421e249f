-- Ways that meet one by one.
use Rattle.std.proofs.Common.{◌≡◌, ℕ, List, [], ◌∷◌, ◌++◌, map, reverse, Some, refl, ◌∙◌, subst}
use Rattle.refine_flow.specs.declared.facts.Facts.{Facts}
use Rattle.scopes.specs.View.{KeepsHeights}
use Rattle.typing.specs.States.{World}
use Rattle.typing.specs.Forms.{choices_out}
use Rattle.fact_ways.specs.declared.fork.Fork.{Fork}
use Rattle.fact_ways.specs.Ways.{Fits, Goes, AreNested, outermost, way_of, ways_of}
use Rattle.fact_ways.proofs.Marks.{goes_through, goes_nowhere}
use Rattle.fact_ways.proofs.Nests.{nested_on, ways_on, outermost_on, reverse_last}
use Rattle.check_moves.specs.declared.state.State.{State}
use Rattle.check_moves.specs.declared.state.Read.{Read}
use Rattle.expression_moves.specs.declared.branches.Chosen.{Chosen}
use Rattle.check_moves.specs.View.{around, told}
use Rattle.check_moves.specs.Follows.{Follows}
use Rattle.expression_moves.specs.Moves.{chosen_view, choices_left}
use Rattle.check_moves.proofs.Following.{heights_twice}

-- the ways of branches
abbrev pub forks_of : List Chosen → List Fork
forks_of chosen = map (λ c. c.fork) chosen

pub chosen_alike : (a b : Facts) (cs : List Chosen) → ways_of b (forks_of cs) ≡ ways_of a (forks_of cs) → map (chosen_view b) cs ≡ map (chosen_view a) cs
chosen_alike a b [] same = refl
chosen_alike a b (c ∷ cs) same = cc_step (heads same) (chosen_alike a b cs (tails same))
  where
    heads : ways_of b (forks_of (c ∷ cs)) ≡ ways_of a (forks_of (c ∷ cs)) → way_of b c.fork ≡ way_of a c.fork
    heads is = cc

    tails : ways_of b (forks_of (c ∷ cs)) ≡ ways_of a (forks_of (c ∷ cs)) → ways_of b (forks_of cs) ≡ ways_of a (forks_of cs)
    tails is = cc

    cc_step : way_of b c.fork ≡ way_of a c.fork → map (chosen_view b) cs ≡ map (chosen_view a) cs → map (chosen_view b) (c ∷ cs) ≡ map (chosen_view a) (c ∷ cs)
    cc_step first rest = λ i. record { first = c.first; ty = c.ty; facts = first i } ∷ rest i

-- Some branches met all that follows them, and others are left.
pub record BranchesMet (w : World) (t : ℕ) (all : List Chosen) (last : Read) (a : State) (left : List Chosen) (r : Read) (b : State) : Type 0 where
  pub read : choices_left w t (map (chosen_view b.facts) left) (told r b) ≡ choices_left w t (map (chosen_view a.facts) all) (told last a)
  pub fits : Fits r.fork b.facts
  pub nested : AreNested (forks_of left) r.fork b.facts
  pub same : around b ≡ around a
  pub goes : Goes (outermost (forks_of all) last.fork) a.facts (outermost (forks_of left) r.fork) b.facts
  pub heights : KeepsHeights a.scope b.scope

pub branches_none : (w : World) (t : ℕ) (all : List Chosen) (last : Read) (a : State) → Fits last.fork a.facts → AreNested (forks_of all) last.fork a.facts → BranchesMet w t all last a all last a
branches_none w t all last a fits nested =
    record { read = refl; fits = fits; nested = nested; same = refl; goes = goes_nowhere (outermost (forks_of all) last.fork) a.facts; heights = λ height is. (is, refl) }

pub branches_one : (w : World) (t : ℕ) (all : List Chosen) (last : Read) (a : State) (k : Chosen) (left : List Chosen) (r s : Read) (b c : State) → BranchesMet w t all last a (k ∷ left) r b →
    told s c ≡ choices_out w t (chosen_view b.facts k ∷ []) (told r b) → around c ≡ around b → Follows (Some k.fork) b s.fork c → BranchesMet w t all last a left s c
branches_one w t all last a k left r s b c before read same follows = record {
  read = (λ i. choices_left w t (chosen_alike b.facts c.facts left (ways_on (forks_of left) (Some k.fork) s.fork b.facts c.facts follows.leads.goes before.nested.1) i) (read i)) ∙ before.read;
  fits = follows.leads.fits;
  nested = nested_on (forks_of left) (Some k.fork) s.fork b.facts c.facts follows.leads.goes before.nested.1;
  same = same ∙ before.same;
  goes = goes_through (outermost (forks_of all) last.fork) (outermost (forks_of left) (Some k.fork)) (outermost (forks_of left) s.fork) a.facts b.facts c.facts before.goes
      (outermost_on (forks_of left) (Some k.fork) s.fork b.facts c.facts follows.leads.goes before.nested.1);
  heights = heights_twice a.scope b.scope c.scope before.heights follows.heights;
}

-- the last one of those that wait
pub branches_last : (w : World) (t : ℕ) (all : List Chosen) (last : Read) (a : State) (k : Chosen) (waiting left : List Chosen) (r s : Read) (b c : State) → BranchesMet w t all last a (reverse waiting) r b →
    waiting ≡ left ++ k ∷ [] → told s c ≡ choices_out w t (chosen_view b.facts k ∷ []) (told r b) → around c ≡ around b → Follows (Some k.fork) b s.fork c → BranchesMet w t all last a (reverse left) s c
branches_last w t all last a k waiting left r s b c before is read same follows =
    branches_one w t all last a k (reverse left) r s b c (subst (λ (l : List Chosen). BranchesMet w t all last a l r b) (reverse_last waiting left k is) before) read same follows

-- the last branch stands round what follows it
pub branch_stands : (w : World) (t : ℕ) (all : List Chosen) (last : Read) (a : State) (k : Chosen) (waiting left : List Chosen) (r : Read) (b : State) → BranchesMet w t all last a (reverse waiting) r b →
    waiting ≡ left ++ k ∷ [] → AreNested (k.fork ∷ []) r.fork b.facts
branch_stands w t all last a k waiting left r b before is =
    ((subst (λ (l : List Chosen). AreNested (forks_of l) r.fork b.facts) (reverse_last waiting left k is) before.nested).0, tt)

-- ---- none is left

pub branches_all : (w : World) (t : ℕ) (all : List Chosen) (last : Read) (a : State) (waiting : List Chosen) (r : Read) (b : State) → BranchesMet w t all last a (reverse waiting) r b → waiting ≡ [] → BranchesMet w t all last a [] r b
branches_all w t all last a waiting r b before is = subst (λ (l : List Chosen). BranchesMet w t all last a (reverse l) r b) is before
