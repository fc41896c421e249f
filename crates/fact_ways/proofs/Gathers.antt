-- Ways in one another that are gathered one by one.
use Rattle.std.proofs.Common.{◌≡◌, List, [], ◌∷◌, ◌++◌, reverse, Some, None, Result, Ok, Err, OnOk, length, refl, ◌∙◌, subst, arith}
use Rattle.flow_facts.specs.Known.{joined}
use Rattle.fact_arms.specs.declared.gathered.Gathered.{Gathered}
use Rattle.refine_flow.specs.declared.facts.Facts.{Facts}
use Rattle.refine_flow.specs.Standing.{known, SpendsMark, KeepsMarks}
use Rattle.refine_flow.specs.Gathered.{known_with, IsGathered}
use Rattle.fact_ways.specs.declared.fork.Fork.{Fork}
use Rattle.fact_ways.specs.Ways.{Fits, Goes, Leads, AreNested, outermost, way_of, ways_of, all_joined}
use Rattle.fact_ways.proofs.Marks.{goes_nowhere, goes_through, keeps_goes, spent_leads}
use Rattle.fact_ways.proofs.Nests.{nested_on, ways_on, outermost_on, nested_less, reverse_last}

-- Some ways were gathered, the last ones first, and others are left.
pub record Gathers (all : List Fork) (a : Facts) (left : List Fork) (g : Gathered) (b : Facts) : Type 0 where
  pub gathered : IsGathered g b
  pub facts : all_joined (ways_of b left) (known_with g b) ≡ all_joined (ways_of a all) (known a)
  pub nested : AreNested left None b
  pub goes : Goes (outermost all None) a (outermost left None) b

pub gathers_none : (all : List Fork) (a : Facts) (g : Gathered) → AreNested all None a → IsGathered g a → known_with g a ≡ known a → Gathers all a all g a
gathers_none all a g nested gathered same = record { gathered = gathered; facts = λ i. all_joined (ways_of a all) (same i); nested = nested; goes = goes_nowhere (outermost all None) a }

gathers_one : (all : List Fork) (a : Facts) (k : Fork) (left : List Fork) (g h : Gathered) (b c : Facts) → Gathers all a (k ∷ left) g b → known_with h c ≡ joined (way_of b k) (known_with g b) → IsGathered h c → Leads (Some k) b None c → Gathers all a left h c
gathers_one all a k left g h b c before meets gathered leads = record {
  gathered = gathered;
  facts = (λ i. all_joined (ways_on left (Some k) None b c leads.goes before.nested.1 i) (meets i)) ∙ before.facts;
  nested = nested_on left (Some k) None b c leads.goes before.nested.1;
  goes = goes_through (outermost all None) (outermost left (Some k)) (outermost left None) a b c before.goes (outermost_on left (Some k) None b c leads.goes before.nested.1);
}

-- the last one of those that are left
pub gathers_last : (all : List Fork) (a : Facts) (k : Fork) (waiting left : List Fork) (g h : Gathered) (b c : Facts) → Gathers all a (reverse waiting) g b → waiting ≡ left ++ k ∷ [] → known_with h c ≡ joined (way_of b k) (known_with g b) → IsGathered h c →
    Leads (Some k) b None c → Gathers all a (reverse left) h c
gathers_last all a k waiting left g h b c before is meets gathered leads =
    gathers_one all a k (reverse left) g h b c (subst (λ (l : List Fork). Gathers all a l g b) (reverse_last waiting left k is) before) meets gathered leads

-- it stands
pub last_fits : (all : List Fork) (a : Facts) (k : Fork) (waiting left : List Fork) (g : Gathered) (b : Facts) → Gathers all a (reverse waiting) g b → waiting ≡ left ++ k ∷ [] → Fits (Some k) b
last_fits all a k waiting left g b before is = nested_less (reverse left) k b (subst (λ (l : List Fork). AreNested l None b) (reverse_last waiting left k is) before.nested)

-- none is left
pub gathered_facts : {T E : Type 0} (r : Result T E) (all : List Fork) (a : Facts) (waiting : List Fork) (g : Gathered) (b c : Facts) → Gathers all a (reverse waiting) g b → waiting ≡ [] → OnOk r (known c ≡ known_with g b) →
    OnOk r (known c ≡ all_joined (ways_of a all) (known a))
gathered_facts (Err x) all a waiting g b c before is made = tt
gathered_facts (Ok x) all a waiting g b c before is made = made ∙ (subst (λ (l : List Fork). Gathers all a (reverse l) g b) is before).facts

pub gathered_leads : {T E : Type 0} (r : Result T E) (all : List Fork) (a : Facts) (waiting : List Fork) (g : Gathered) (b c : Facts) → Gathers all a (reverse waiting) g b → waiting ≡ [] → KeepsMarks b c → OnOk r (Leads (outermost all None) a None c)
gathered_leads (Err x) all a waiting g b c before is keeps = tt
gathered_leads (Ok x) all a waiting g b c before is keeps =
    record { fits = tt; goes = goes_through (outermost all None) None None a b c (subst (λ (l : List Fork). Gathers all a (reverse l) g b) is before).goes (keeps_goes b c keeps) }

-- the mark of a way is spent
pub way_leads : {T E : Type 0} (r : Result T E) (k : Fork) (a b : Facts) → OnOk r (SpendsMark k.mark a b) → OnOk r (Leads (Some k) a None b)
way_leads (Ok x) k a b spent = spent_leads k a b spent
way_leads (Err x) k a b spent = tt

-- a list with no elements
pub none_left : {X : Type 0} (xs : List X) → length xs ≡ 0 → xs ≡ []
none_left [] none = refl
none_left (x ∷ xs) none = absurd (omega (arith, none))
