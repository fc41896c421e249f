-- Changes that are made again.
use Rattle.std.proofs.Common.{◌≡◌, ◌≤◌, Bool, true, false, ◌&&◌, ◌||◌, List, [], ◌∷◌, ◌++◌, Option, Some, None, length, Result, Ok, Err, OnOk, refl, sym, ap, ◌∙◌, if◌then◌else◌, arith}
use Rattle.std.proofs.lemmas.List.Folds.{list_any-append}
use Rattle.std.specs.Option.{is_some}
use Rattle.fact_trail.specs.declared.fact.Fact.{Fact}
use Rattle.fact_trail.specs.declared.trail.Trail.{Trail}
use Rattle.fact_trail.specs.declared.slot.Slot.{Slot}
use Rattle.fact_trail.specs.Types.{ty_of}
use Rattle.fact_trail.specs.Slots.{Map, at_slot, is_slot}
use Rattle.fact_trail.specs.Moments.{map_of, KeepsMoments, IsNew, Adds, Drops}
use Rattle.fact_trail.proofs.Same.{same_slot}
use Rattle.fact_trail.proofs.Changes.{adds_none}
use Rattle.fact_arms.specs.declared.difference.Difference.{Difference}
use Rattle.fact_arms.specs.Differences.{said_else, said_of, is_said, is_gone, over, type_of, SameTypes, is_listed, Leaves, Goes}
use Rattle.fact_arms.specs.Joining.{said_at}

-- ---- one slot

-- a fact of the same type
pub given_fact : (slot : Slot) (fact own : Fact) (m n : Map) → ty_of own ≡ ty_of fact → n ≡ at_slot slot (Some own) m → SameTypes n (at_slot slot (Some fact) m)
given_fact slot fact own m n ty made s = ap (λ (l : Map). type_of (l s)) made ∙ at (is_slot slot s)
  where
    at : (t : Bool) → type_of (if t then Some own else m s) ≡ type_of (if t then Some fact else m s)
    at true = ap Some ty
    at false = refl

pub given_fresh : (slot s : Slot) (fact : Option Fact) (f : Fact) (old new : Trail) → fact ≡ Some f → Adds slot old new → (is_slot slot s ≡ true → is_some fact ≡ false) → IsNew s old → IsNew s new
given_fresh slot s fact f old new there adds none fresh = adds.fresh s (at (is_slot slot s) refl) fresh
  where
    wrong : true ≡ false → ⊥
    wrong e = cc

    at : (t : Bool) → is_slot slot s ≡ t → t ≡ false
    at true is = absurd (wrong (sym (ap is_some there) ∙ none is))
    at false is = refl

pub made_at : (d : Difference) (slot : Slot) (fact : Option Fact) (m : Map) → said_of d slot ≡ Some fact → (s : Slot) → at_slot slot fact m s ≡ said_at d slot m s
made_at d slot fact m says s = λ i. if is_slot slot s then said_else (sym says i) (m s) else m s

pub made_none : (d : Difference) (slot : Slot) (m : Map) → said_of d slot ≡ None → (s : Slot) → m s ≡ said_at d slot m s
made_none d slot m says s = at (is_slot slot s) ∙ (λ i. if is_slot slot s then said_else (sym says i) (m s) else m s)
  where
    at : (t : Bool) → m s ≡ (if t then m s else m s)
    at true = refl
    at false = refl

-- a slot that is left without a fact is given none
pub left_none : (d : Difference) (slot s : Slot) (fact : Option Fact) → said_of d slot ≡ Some fact → Leaves s d → is_slot slot s ≡ true → is_some fact ≡ false
left_none d slot s fact says leaves is =
    ap is_some (sym (ap (λ o. said_else o None) (ap (said_of d) (sym (same_slot slot s is)) ∙ says)) ∙ leaves)

-- the same, whatever the result
pub given_at : {T E : Type 0} (r : Result T E) (slot : Slot) (fact own : Fact) (m n : Map) → ty_of own ≡ ty_of fact → OnOk r (n ≡ at_slot slot (Some own) m) → OnOk r (SameTypes n (at_slot slot (Some fact) m))
given_at (Ok x) slot fact own m n ty made = given_fact slot fact own m n ty made
given_at (Err x) slot fact own m n ty made = tt

pub adds_nothing : (slot : Slot) (t : Trail) → Adds slot t t
adds_nothing slot t = adds_none slot t t refl refl

pub put_at : {T E : Type 0} (r : Result T E) (slot : Slot) (fact : Option Fact) (f : Fact) (m n : Map) → fact ≡ Some f → OnOk r (SameTypes n (at_slot slot (Some f) m)) → OnOk r (SameTypes n (at_slot slot fact m))
put_at (Ok x) slot fact f m n there made = λ s. made s ∙ (λ i. type_of (if is_slot slot s then sym there i else m s))
put_at (Err x) slot fact f m n there made = tt

pub put_own : {T E : Type 0} (r : Result T E) (slot : Slot) (fact : Option Fact) (f : Fact) (m n : Map) → fact ≡ Some f → OnOk r (n ≡ at_slot slot (Some f) m) → OnOk r (n ≡ at_slot slot fact m)
put_own (Ok x) slot fact f m n there made = made ∙ ap (λ o. at_slot slot o m) (sym there)
put_own (Err x) slot fact f m n there made = tt

pub removed_own : (slot : Slot) (fact : Option Fact) (old new : Trail) → fact ≡ None → Drops (is_slot slot) old new → map_of new ≡ at_slot slot fact (map_of old)
removed_own slot fact old new none drops = drops.facts ∙ (λ i s. if is_slot slot s then sym none i else map_of old s)

pub removed_at : (slot : Slot) (fact : Option Fact) (old new : Trail) → fact ≡ None → Drops (is_slot slot) old new → SameTypes (map_of new) (at_slot slot fact (map_of old))
removed_at slot fact old new none drops s = ap (λ (m : Map). type_of (m s)) (removed_own slot fact old new none drops)

pub made_said : {T E : Type 0} (r : Result T E) (d : Difference) (slot : Slot) (fact : Option Fact) (m n : Map) → said_of d slot ≡ Some fact → OnOk r (SameTypes n (at_slot slot fact m)) → OnOk r (SameTypes n (said_at d slot m))
made_said (Ok x) d slot fact m n says made = λ s. made s ∙ ap type_of (made_at d slot fact m says s)
made_said (Err x) d slot fact m n says made = tt

pub said_goes : (d : Difference) (slot : Slot) (fact : Option Fact) (old new : Trail) → said_of d slot ≡ Some fact → length old.changes.items ≤ length new.changes.items → KeepsMoments (length old.changes.items) old new →
    ((s : Slot) → (is_slot slot s ≡ true → is_some fact ≡ false) → IsNew s old → IsNew s new) → Goes d old new
said_goes d slot fact old new says longer moments fresh = record {
  longer = longer;
  moments = moments;
  fresh = λ s leaves was. fresh s (left_none d slot s fact says leaves) was;
}

-- ---- all slots

pub goes_itself : (d : Difference) (t : Trail) → Goes d t t
goes_itself d t = record {
  longer = omega arith;
  moments = λ n within. refl;
  fresh = λ s leaves new. new;
}

pub goes_then : (d : Difference) (a b c : Trail) → Goes d a b → Goes d b c → Goes d a c
goes_then d a b c first second = record {
  longer = omega (arith, first.longer, second.longer);
  moments = λ n within. second.moments n (omega (arith, within, first.longer)) ∙ first.moments n within;
  fresh = λ s leaves new. second.fresh s leaves (first.fresh s leaves new);
}

pub goes_dropped : (d : Difference) (gone : Slot → Bool) (old new : Trail) → Drops gone old new → Goes d old new
goes_dropped d gone old new drops = record {
  longer = drops.longer;
  moments = drops.moments;
  fresh = λ s leaves fresh. drops.fresh s fresh;
}

and_true : (a b : Bool) → b ≡ true → (a && b) ≡ a
and_true true b is = is
and_true false b is = refl

and_false : (a b : Bool) → b ≡ false → (a && b) ≡ false
and_false true b is = is
and_false false b is = refl

-- the facts of a class go, where it is gone
pub made_gone : (of : Slot → Bool) (b t : Bool) (old new : Trail) → b ≡ t → b ≡ true → Drops of old new → (s : Slot) → map_of new s ≡ (if of s && t then None else map_of old s)
made_gone of b t old new tells holds drops s = ap (λ (m : Map). m s) drops.facts ∙ sym (ap (λ u. if u then None else map_of old s) (and_true (of s) t (sym tells ∙ holds)))

pub made_stays : (of : Slot → Bool) (b t : Bool) (m : Map) → b ≡ t → b ≡ false → (s : Slot) → m s ≡ (if of s && t then None else m s)
made_stays of b t m tells fails s = sym (ap (λ u. if u then None else m s) (and_false (of s) t (sym tells ∙ fails)))

-- those that are not listed have what is to be made
pub made_first : (d : Difference) (slots : List Slot) (m n : Map) → ((s : Slot) → is_said d s ≡ true → is_listed slots s ≡ true) → ((s : Slot) → n s ≡ (if is_gone d s then None else m s)) →
    (s : Slot) → (is_listed slots s && is_said d s) ≡ false → type_of (n s) ≡ type_of (over d m s)
made_first d slots m n all gone s open' = ap type_of (gone s ∙ at (said_of d s) refl)
  where
    wrong : true ≡ false → ⊥
    wrong e = cc

    at : (o : Option (Option Fact)) → said_of d s ≡ o → (if is_gone d s then None else m s) ≡ said_else (said_of d s) (if is_gone d s then None else m s)
    at None none = ap (λ o. said_else o (if is_gone d s then None else m s)) (sym none)
    at (Some fact) says = absurd (wrong ((λ i. sym (all s (ap is_some says)) i && sym (ap is_some says) i) ∙ open'))

pub last_listed : (all rest : List Slot) (slot s : Slot) → all ≡ rest ++ slot ∷ [] → is_listed all s ≡ (is_listed rest s || (is_slot slot s || false))
last_listed all rest slot s are = ap (λ l. is_listed l s) are ∙ list_any-append (λ t. is_slot t s) rest (slot ∷ [])

-- one slot more is made
pub made_more : (d : Difference) (all rest : List Slot) (slot : Slot) (m0 m n : Map) → all ≡ rest ++ slot ∷ [] → ((s : Slot) → (is_listed all s && is_said d s) ≡ false → type_of (m s) ≡ type_of (over d m0 s)) →
    SameTypes n (said_at d slot m) → (s : Slot) → (is_listed rest s && is_said d s) ≡ false → type_of (n s) ≡ type_of (over d m0 s)
made_more d all rest slot m0 m n are before made s open' = made s ∙ at (is_slot slot s) refl
  where
    -- the slot itself
    here : (o : Option (Option Fact)) → said_of d s ≡ o → type_of (said_else (said_of d s) (m s)) ≡ type_of (over d m0 s)
    here (Some fact) says =
        ap (λ o. type_of (said_else o (m s))) says
        ∙ ap (λ o. type_of (said_else o (if is_gone d s then None else m0 s))) (sym says)
    here None none =
        ap (λ o. type_of (said_else o (m s))) none
        ∙ before s (ap (λ b. is_listed all s && is_some b) none ∙ and_false (is_listed all s))
      where
        and_false : (b : Bool) → (b && false) ≡ false
        and_false true = refl
        and_false false = refl

    still : (a b : Bool) → (a && b) ≡ false → ((a || (false || false)) && b) ≡ false
    still true b is = is
    still false b is = refl

    at : (t : Bool) → is_slot slot s ≡ t → type_of (if is_slot slot s then said_else (said_of d slot) (m s) else m s) ≡ type_of (over d m0 s)
    at true same =
        ap (λ t. type_of (if t then said_else (said_of d slot) (m s) else m s)) same
        ∙ ap (λ q. type_of (said_else (said_of d q) (m s))) (same_slot slot s same) ∙ here (said_of d s) refl
    at false other =
        ap (λ t. type_of (if t then said_else (said_of d slot) (m s) else m s)) other
        ∙ before s (ap (λ b. b && is_said d s) (last_listed all rest slot s are ∙ ap (λ t. is_listed rest s || (t || false)) other) ∙ still (is_listed rest s) (is_said d s) open')

-- ---- none is left

pub none_listed : (slots : List Slot) → length slots ≡ 0 → (s : Slot) → is_listed slots s ≡ false
none_listed [] none s = refl
none_listed (slot ∷ slots) none s = absurd (omega (arith, none))

pub made_all : (d : Difference) (slots : List Slot) (m n : Map) → length slots ≡ 0 → ((s : Slot) → (is_listed slots s && is_said d s) ≡ false → type_of (n s) ≡ type_of (over d m s)) → SameTypes n (over d m)
made_all d slots m n none made s = made s (ap (λ b. b && is_said d s) (none_listed slots none s))
