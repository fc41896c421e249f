-- Steps from state to state.
use Rattle.std.proofs.Common.{◌≡◌, List, [], ◌∷◌, Option, Some, None, refl, sym, ◌∙◌, subst}
use Rattle.refine_flow.specs.Standing.{KeepsMarks}
use Rattle.scopes.specs.View.{KeepsHeights}
use Rattle.scopes.specs.declared.scope.Scope.{Scope}
use Rattle.fact_ways.specs.declared.fork.Fork.{Fork}
use Rattle.fact_ways.specs.Ways.{Fits, Goes, Leads, outermost, way_of, ways_of}
use Rattle.fact_ways.proofs.Marks.{goes_through, leads_through, leads_under, way_again, goes_nowhere, keeps_leads}
use Rattle.fact_ways.proofs.Nests.{nested_on, ways_on, outermost_on, fits_stands}
use Rattle.check_moves.specs.declared.state.State.{State}
use Rattle.check_moves.specs.Follows.{Follows, Leaves}

pub heights_same : (a b : Scope) → b ≡ a → KeepsHeights a b
heights_same a b same = subst (λ s. KeepsHeights a s) (sym same) (λ height is. (is, refl))

pub heights_twice : (a b c : Scope) → KeepsHeights a b → KeepsHeights b c → KeepsHeights a c
heights_twice a b c first second height is = let once = first height is in let twice = second height once.0 in (twice.0, twice.1 ∙ once.1)

-- the facts alone are changed
pub follows_facts : (r s : Option Fork) (a b : State) → b.scope ≡ a.scope → Leads r a.facts s b.facts → Follows r a s b
follows_facts r s a b same leads = record { leads = leads; heights = heights_same a.scope b.scope same }

pub follows_nothing : (a b : State) → b.scope ≡ a.scope → b.facts ≡ a.facts → Follows None a None b
follows_nothing a b names facts =
    follows_facts None None a b names (record { fits = tt; goes = subst (λ f. Goes None a.facts None f) (sym facts) (goes_nowhere None a.facts) })

-- the names alone are changed
pub follows_scope : (a b : State) → b.facts ≡ a.facts → KeepsHeights a.scope b.scope → Follows None a None b
follows_scope a b facts heights = record { leads = record { fits = tt; goes = subst (λ f. Goes None a.facts None f) (sym facts) (goes_nowhere None a.facts) }; heights = heights }

-- the notes alone are changed
pub follows_notes : (r : Option Fork) (a b : State) → b.scope ≡ a.scope → b.facts ≡ a.facts → Fits r a.facts → Follows r a r b
follows_notes r a b names facts fits =
    follows_facts r r a b names (subst (λ f. Leads r a.facts r f) (sym facts) (record { fits = fits; goes = goes_nowhere r a.facts }))

-- a call of the facts that keeps all marks
pub follows_kept : (a b : State) → b.scope ≡ a.scope → KeepsMarks a.facts b.facts → Follows None a None b
follows_kept a b names kept = follows_facts None None a b names (keeps_leads a.facts b.facts kept)

pub follows_through : (r s t : Option Fork) (a b c : State) → Follows r a s b → Follows s b t c → Follows r a t c
follows_through r s t a b c first second = record {
  leads = leads_through r s t a.facts b.facts c.facts first.leads second.leads;
  heights = heights_twice a.scope b.scope c.scope first.heights second.heights;
}

-- neither the facts nor the names are changed, behind steps, before one, and between them
pub follows_still : (r s : Option Fork) (a b c : State) → Follows r a s b → c.scope ≡ b.scope → c.facts ≡ b.facts → Follows r a s c
follows_still r s a b c first names facts = record {
  leads = subst (λ f. Leads r a.facts s f) (sym facts) first.leads;
  heights = subst (λ n. KeepsHeights a.scope n) (sym names) first.heights;
}

pub follows_from : (s : Option Fork) (a b c : State) → b.scope ≡ a.scope → b.facts ≡ a.facts → Follows None b s c → Follows None a s c
follows_from s a b c names facts next = follows_through None None s a b c (follows_nothing a b names facts) next

pub follows_past : (r s : Option Fork) (a b c d : State) → Follows r a None b → c.scope ≡ b.scope → c.facts ≡ b.facts → Follows None c s d → Follows r a s d
follows_past r s a b c d first names facts next = follows_through r None s a c d (follows_still r None a b c first names facts) next

-- what goes on behind ways leaves them standing
pub follows_under : (r : Option Fork) (k : Fork) (a b c : State) → Follows r a (Some k) b → Follows None b None c → Follows r a (Some k) c
follows_under r k a b c first second = record {
  leads = leads_under r k a.facts b.facts c.facts first.leads second.leads;
  heights = heights_twice a.scope b.scope c.scope first.heights second.heights;
}

pub fits_under : (r : Option Fork) (k : Fork) (a b c : State) → Follows r a (Some k) b → Follows None b None c → Fits (Some k) c.facts
fits_under r k a b c first second = (follows_under r k a b c first second).leads.fits

-- two ways, each of which goes on
pub follows_two : (k j : Fork) (a b c d e : State) → Follows None a (Some k) b → Follows None b None c → Follows (Some k) c (Some j) d → Follows None d None e → Follows None a (Some j) e
follows_two k j a b c d e parts goes turns ends =
    follows_under None j a d e (follows_through None (Some k) (Some j) a c d (follows_under None k a b c parts goes) turns) ends

-- with the same way of the arm
pub way_under : (k : Fork) (a b : State) → Fits (Some k) a.facts → Follows None a None b → way_of b.facts k ≡ way_of a.facts k
way_under k a b fits follows = way_again k a.facts b.facts fits follows.leads.goes

-- ---- ways that left

pub leaves_nothing : (a : State) → Leaves a [] None a
leaves_nothing a = record { nested = tt; fits = tt; goes = goes_nowhere None a.facts; heights = λ height is. (is, refl) }

-- the ways inside go on
pub leaves_on : (a : State) (ks : List Fork) (r s : Option Fork) (b c : State) → Leaves a ks r b → Follows r b s c → Leaves a ks s c
leaves_on a ks r s b c before next = record {
  nested = nested_on ks r s b.facts c.facts next.leads.goes before.nested;
  fits = next.leads.fits;
  goes = goes_through None (outermost ks r) (outermost ks s) a.facts b.facts c.facts before.goes (outermost_on ks r s b.facts c.facts next.leads.goes before.nested);
  heights = heights_twice a.scope b.scope c.scope before.heights next.heights;
}

-- those that left are as before
pub ways_left : (a : State) (ks : List Fork) (r s : Option Fork) (b c : State) → Leaves a ks r b → Follows r b s c → ways_of c.facts ks ≡ ways_of b.facts ks
ways_left a ks r s b c before next = ways_on ks r s b.facts c.facts next.leads.goes before.nested

-- one more leaves
pub leaves_more : (a : State) (ks : List Fork) (k : Fork) (b : State) → Leaves a ks (Some k) b → Leaves a (k ∷ ks) None b
leaves_more a ks k b before =
    record { nested = (fits_stands k b.facts before.fits, before.nested); fits = tt; goes = before.goes; heights = before.heights }

-- and all meet
pub follows_left : (a : State) (ks : List Fork) (r s : Option Fork) (b c : State) → Leaves a ks r b → Follows (outermost ks r) b s c → Follows None a s c
follows_left a ks r s b c before met = record {
  leads = record { fits = met.leads.fits; goes = goes_through None (outermost ks r) s a.facts b.facts c.facts before.goes met.leads.goes };
  heights = heights_twice a.scope b.scope c.scope before.heights met.heights;
}
