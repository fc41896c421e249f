-- Ways that left, while what stands inside them is read and ends.
use Rattle.std.proofs.Common.{◌≡◌, List, [], ◌∷◌, Option, Some, None, ◌∙◌}
use Rattle.fact_ways.specs.declared.fork.Fork.{Fork}
use Rattle.fact_ways.specs.Ways.{Fits, AreNested, outermost, way_of, ways_of}
use Rattle.fact_ways.proofs.Marks.{goes_through}
use Rattle.fact_ways.proofs.Nests.{nested_on, nested_less, ways_on, outermost_on}
use Rattle.check_moves.specs.declared.state.State.{State}
use Rattle.check_moves.specs.Follows.{Follows}
use Rattle.check_moves.proofs.Following.{heights_twice, follows_through}

-- ways round others stand once the others ended
pub fits_round : (k : Fork) (r : Option Fork) (a b : State) → AreNested (k ∷ []) r a.facts → Follows r a None b → Fits (Some k) b.facts
fits_round k r a b nested inside = nested_less [] k b.facts (nested_on (k ∷ []) r None a.facts b.facts inside.leads.goes nested)

-- with the same way of the arm
pub way_round : (k : Fork) (r : Option Fork) (a b : State) → AreNested (k ∷ []) r a.facts → Follows r a None b → way_of b.facts k ≡ way_of a.facts k
way_round k r a b nested inside = heads (ways_on (k ∷ []) r None a.facts b.facts inside.leads.goes nested)
  where
    heads : ways_of b.facts (k ∷ []) ≡ ways_of a.facts (k ∷ []) → way_of b.facts k ≡ way_of a.facts k
    heads is = cc

-- and go on then
pub follows_round : (k : Fork) (r s : Option Fork) (a b c : State) → AreNested (k ∷ []) r a.facts → Follows r a None b → Follows (Some k) b s c → Follows (Some k) a s c
follows_round k r s a b c nested inside next = record {
  leads = record { fits = next.leads.fits; goes = goes_through (Some k) (Some k) s a.facts b.facts c.facts (outermost_on (k ∷ []) r None a.facts b.facts inside.leads.goes nested) next.leads.goes };
  heights = heights_twice a.scope b.scope c.scope inside.heights next.heights;
}

-- ---- ways that left, while the inner ones go on

pub nested_through : (ks : List Fork) (r s : Option Fork) (a b : State) → Follows r a s b → AreNested ks r a.facts → AreNested ks s b.facts
nested_through ks r s a b goes nested = nested_on ks r s a.facts b.facts goes.leads.goes nested

pub ways_through : (ks : List Fork) (r s : Option Fork) (a b : State) → Follows r a s b → AreNested ks r a.facts → ways_of b.facts ks ≡ ways_of a.facts ks
ways_through ks r s a b goes nested = ways_on ks r s a.facts b.facts goes.leads.goes nested

pub follows_outer : (ks : List Fork) (r s t : Option Fork) (a b c : State) → AreNested ks r a.facts → Follows r a s b → Follows (outermost ks s) b t c → Follows (outermost ks r) a t c
follows_outer ks r s t a b c nested first second = record {
  leads = record { fits = second.leads.fits; goes = goes_through (outermost ks r) (outermost ks s) t a.facts b.facts c.facts (outermost_on ks r s a.facts b.facts first.leads.goes nested) second.leads.goes };
  heights = heights_twice a.scope b.scope c.scope first.heights second.heights;
}

-- the ways turn before that
pub nested_turned : (ks : List Fork) (r s t : Option Fork) (a b c : State) → Follows r a s b → Follows s b t c → AreNested ks r a.facts → AreNested ks t c.facts
nested_turned ks r s t a b c first second nested = nested_through ks s t b c second (nested_through ks r s a b first nested)

pub ways_turned : (ks : List Fork) (r s t : Option Fork) (a b c : State) → Follows r a s b → Follows s b t c → AreNested ks r a.facts → ways_of c.facts ks ≡ ways_of a.facts ks
ways_turned ks r s t a b c first second nested = ways_through ks s t b c second (nested_through ks r s a b first nested) ∙ ways_through ks r s a b first nested

pub turned_outer : (ks : List Fork) (r s t u v : Option Fork) (a b c d e : State) → AreNested ks r a.facts → Follows r a s b → Follows s b t c → Follows (outermost ks t) c u d → Follows u d v e → Follows (outermost ks r) a v e
turned_outer ks r s t u v a b c d e nested first second third last =
    follows_outer ks r t v a c e nested (follows_through r s t a b c first second) (follows_through (outermost ks t) u v c d e third last)
