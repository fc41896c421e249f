-- Joining what two differences make.
use Rattle.std.proofs.Common.{◌≡◌, Bool, true, false, not, ◌||◌, ◌&&◌, List, [], ◌∷◌, ◌++◌, Option, Some, None, refl, sym, ap, ◌∙◌, if◌then◌else◌}
use Rattle.type_values.specs.declared.types.FlowType.{FlowType}
use Rattle.type_terms.specs.Join.{join_of}
use Rattle.type_terms.proofs.Settled.{settled}
use Rattle.fact_trail.specs.declared.fact.Fact.{Fact}
use Rattle.fact_trail.specs.declared.slot.Slot.{Slot}
use Rattle.std.specs.Option.{is_some}
use Rattle.fact_trail.specs.Types.{ty_of}
use Rattle.fact_trail.specs.Slots.{Map, is_slot, is_rough_at}
use Rattle.fact_trail.proofs.Same.{same_slot}
use Rattle.fact_trail.proofs.Changes.{absent}
use Rattle.flow_facts.specs.Known.{both}
use Rattle.fact_arms.specs.declared.gone.Gone.{Gone}
use Rattle.fact_arms.specs.declared.difference.Difference.{Difference}
use Rattle.fact_arms.specs.Differences.{said_else, said_of, is_said, is_among, is_gone, over, type_of, is_listed}
use Rattle.fact_arms.specs.Joining.{joined_type}
use Rattle.fact_arms.proofs.Over.{gone_same}
use Rattle.fact_arms.proofs.Making.{last_listed}

-- a join is its own join with itself
pub settled_as : (ty first second : FlowType) → ty ≡ join_of (first ∷ second ∷ []) → join_of (ty ∷ ty ∷ []) ≡ ty
settled_as ty first second is = (λ i. join_of (is i ∷ is i ∷ [])) ∙ settled (first ∷ second ∷ []) ∙ sym is

-- the type of a fact that is not rough
pub settled_smooth : (fact : Fact) (ty : FlowType) → fact.rough ≡ false → ty ≡ ty_of fact → join_of (ty ∷ ty ∷ []) ≡ ty
settled_smooth fact ty smooth is = (λ i. join_of (is i ∷ is i ∷ [])) ∙ fact.settled smooth ∙ sym is

-- what is not listed is not
not_yes : (b listed : Bool) → (b ≡ true → listed ≡ true) → listed ≡ false → b ≡ false
not_yes true listed there unlisted = sym (there refl) ∙ unlisted
not_yes false listed there unlisted = refl

-- a fact of which nothing is said, and which its own join leaves
unsaid_join : (x : Option Fact) (a b : Bool) → is_rough_at x ≡ false → type_of (if a || b then None else x) ≡ both (type_of (if a then None else x)) (type_of (if b then None else x))
unsaid_join x true b smooth = refl
unsaid_join None false true smooth = refl
unsaid_join (Some f) false true smooth = refl
unsaid_join None false false smooth = refl
unsaid_join (Some f) false false smooth = ap Some (sym (f.settled smooth))

-- slots that are not listed have their join, where nothing is said
met_first : (first second d : Difference) (slots : List Slot) (m : Map) (gone : Gone) → d.gone ≡ gone → ((s : Slot) → is_among gone s ≡ (is_gone first s || is_gone second s)) → ((s : Slot) → said_of d s ≡ None) →
    ((s : Slot) → is_said first s ≡ true → is_listed slots s ≡ true) → ((s : Slot) → is_said second s ≡ true → is_listed slots s ≡ true) → ((s : Slot) → is_rough_at (m s) ≡ true → is_listed slots s ≡ true) →
    (s : Slot) → is_listed slots s ≡ false → type_of (over d m s) ≡ joined_type first second m s
met_first first second d slots m gone here both_gone nothing firsts seconds rough s unlisted =
    (λ i. type_of (said_else (nothing s i) (if are_gone s i then None else m s)))
    ∙ unsaid_join (m s) (is_gone first s) (is_gone second s) (not_yes (is_rough_at (m s)) (is_listed slots s) (rough s) unlisted)
    ∙ (λ i. both (type_of (said_else (sym none_first i) (if is_gone first s then None else m s))) (type_of (said_else (sym none_second i) (if is_gone second s then None else m s))))
  where
    are_gone : (q : Slot) → is_gone d q ≡ (is_gone first q || is_gone second q)
    are_gone q = ap (λ g. is_among g q) here ∙ both_gone q

    none_first : said_of first s ≡ None
    none_first = absent (said_of first s) (not_yes (is_said first s) (is_listed slots s) (firsts s) unlisted)

    none_second : said_of second s ≡ None
    none_second = absent (said_of second s) (not_yes (is_said second s) (is_listed slots s) (seconds s) unlisted)

-- Some slots have the join of what two differences make, and those are no more said by the second one.
pub record Meets (first second : Difference) (m : Map) (slots : List Slot) (rest d : Difference) : Type 0 where
  pub gone : rest.gone ≡ second.gone
  pub left : (s : Slot) → is_said d s ≡ false → said_of rest s ≡ said_of second s
  pub joins : (s : Slot) → (is_listed slots s && not (is_said d s)) ≡ false → type_of (over d m s) ≡ joined_type first second m s

pub meets_first : (first second d : Difference) (slots : List Slot) (m : Map) (gone : Gone) → d.gone ≡ gone → ((s : Slot) → is_among gone s ≡ (is_gone first s || is_gone second s)) → ((s : Slot) → said_of d s ≡ None) →
    ((s : Slot) → is_said first s ≡ true → is_listed slots s ≡ true) → ((s : Slot) → is_said second s ≡ true → is_listed slots s ≡ true) → ((s : Slot) → is_rough_at (m s) ≡ true → is_listed slots s ≡ true) → Meets first second m slots second d
meets_first first second d slots m gone here both_gone nothing firsts seconds rough = record {
  gone = refl;
  left = λ s unsaid. refl;
  joins = λ s open'. met_first first second d slots m gone here both_gone nothing firsts seconds rough s (unlisted (is_listed slots s) (ap (λ o. is_listed slots s && not (is_some o)) (sym (nothing s)) ∙ open'));
}
  where
    unlisted : (b : Bool) → (b && true) ≡ false → b ≡ false
    unlisted true is = is
    unlisted false is = refl

-- a slot that has it already
pub meets_past : (first second : Difference) (m : Map) (all less : List Slot) (slot : Slot) (rest d : Difference) (said : Bool) → Meets first second m all rest d → all ≡ less ++ slot ∷ [] → said ≡ is_said d slot → said ≡ true → Meets first second m less rest d
meets_past first second m all less slot rest d said before are tells holds = record {
  gone = before.gone;
  left = before.left;
  joins = λ s open'. before.joins s (at s (is_slot slot s) refl open');
}
  where
    and_false : (b : Bool) → (b && false) ≡ false
    and_false true = refl
    and_false false = refl

    still : (a b : Bool) → (a && b) ≡ false → ((a || (false || false)) && b) ≡ false
    still true b is = is
    still false b is = refl

    at : (s : Slot) (t : Bool) → is_slot slot s ≡ t → (is_listed less s && not (is_said d s)) ≡ false → (is_listed all s && not (is_said d s)) ≡ false
    at s true same open' = ap (λ b. is_listed all s && not b) (sym (ap (is_said d) (same_slot slot s same)) ∙ sym tells ∙ holds) ∙ and_false (is_listed all s)
    at s false other open' = ap (λ b. b && not (is_said d s)) (last_listed all less slot s are ∙ ap (λ t. is_listed less s || (t || false)) other) ∙ still (is_listed less s) (not (is_said d s)) open'

-- one slot more has it
pub meets_more : (first second : Difference) (m : Map) (all less : List Slot) (slot : Slot) (rest fewer old new : Difference) (fact : Option Fact) (said : Bool) → Meets first second m all rest old → all ≡ less ++ slot ∷ [] → said ≡ is_said old slot → said ≡ false →
    type_of fact ≡ joined_type first rest m slot → ((s : Slot) → said_of fewer s ≡ (if is_slot slot s then None else said_of rest s)) → fewer.gone ≡ rest.gone →
    ((s : Slot) → said_of new s ≡ (if is_slot slot s then Some fact else said_of old s)) → new.gone ≡ old.gone → Meets first second m less fewer new
meets_more first second m all less slot rest fewer old new fact said before are tells no' joins takes kept says gone = record {
  gone = kept ∙ before.gone;
  left = λ s unsaid. left s (is_slot slot s) refl unsaid;
  joins = λ s open'. at s (is_slot slot s) refl open';
}
  where
    wrong : true ≡ false → ⊥
    wrong e = cc

    other_says : (s : Slot) → is_slot slot s ≡ false → said_of new s ≡ said_of old s
    other_says s other = says s ∙ ap (λ t. if t then Some fact else said_of old s) other

    left : (s : Slot) (t : Bool) → is_slot slot s ≡ t → is_said new s ≡ false → said_of fewer s ≡ said_of second s
    left s true same unsaid = absurd (wrong (sym (ap is_some (says s ∙ ap (λ t. if t then Some fact else said_of old s) same)) ∙ unsaid))
    left s false other unsaid =
        takes s ∙ ap (λ t. if t then None else said_of rest s) other ∙ before.left s (ap is_some (sym (other_says s other)) ∙ unsaid)

    -- the second difference still says what it said of the slot
    second_at : type_of (over rest m slot) ≡ type_of (over second m slot)
    second_at = λ i. type_of (said_else (before.left slot (sym tells ∙ no') i) (if gone_same second rest before.gone slot i then None else m slot))

    listed : (s : Slot) → is_slot slot s ≡ false → is_listed all s ≡ is_listed less s
    listed s other = last_listed all less slot s are ∙ ap (λ t. is_listed less s || (t || false)) other ∙ or_none (is_listed less s)
      where
        or_none : (b : Bool) → (b || (false || false)) ≡ b
        or_none true = refl
        or_none false = refl

    at : (s : Slot) (t : Bool) → is_slot slot s ≡ t → (is_listed less s && not (is_said new s)) ≡ false → type_of (over new m s) ≡ joined_type first second m s
    at s true same open' =
        ap (λ o. type_of (said_else o (if is_gone new s then None else m s))) (says s ∙ ap (λ t. if t then Some fact else said_of old s) same)
        ∙ joins ∙ ap (both (type_of (over first m slot))) second_at ∙ ap (joined_type first second m) (same_slot slot s same)
    at s false other open' =
        (λ i. type_of (said_else (other_says s other i) (if gone_same old new gone s i then None else m s)))
        ∙ before.joins s ((λ i. listed s other i && not (is_some (sym (other_says s other) i))) ∙ open')
